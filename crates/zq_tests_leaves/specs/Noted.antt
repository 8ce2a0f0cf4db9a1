-- What is known of pipes that are kept in another value (own choice).
use Rattle.msg_pipe.specs.Known.{Known}

-- what is known of the pipes in it
abbrev pub known_by : {T S O I N : Type 0} → (within : T → S) → Known S O I N → Known T O I N
known_by within K = record {
  there = λ t n. K.there (within t) n;
  out_name = K.out_name;
  in_name = K.in_name;
  writing = λ t o. K.writing (within t) o;
  reading = λ t i. K.reading (within t) i;
  exact = K.exact;
}

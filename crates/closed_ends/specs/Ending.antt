-- What is done to the halves of one end of a closed socket, and what it leaves (own choice, after libzmq's `pipe_t`).
use Rattle.std.specs.Prelude.{◌≡◌, ℕ, Bool, true, List, Option, Some, None, is_some, map}
use Rattle.msg_pipe.specs.Known.{Known, IsThere, IsElse, KeepsButIn, SeesCommits}
use Rattle.msg_pipe.specs.Told.{FrontFinds}
use Rattle.msg_pipe.specs.declared.pipes.Front.{Front}
use Rattle.desk.specs.declared.given.Given.{Given}
use Rattle.desk.specs.declared.halves.Halves.{Halves}
use Rattle.desk.specs.Holding.{Holding, held_given, read_in}
use Rattle.zq_base.specs.declared.ids.EndId.{EndId}
use Rattle.desk.specs.TakingOver.{IsGivenWith}
use Rattle.end_table.specs.Looking.{met_after}

-- both halves of an end, where its writing half is there
abbrev pub with_input : {O I : Type 0} → Option O → I → Option (Halves O I)
with_input (Some out) input = Some (record { out = out; input = input })
with_input None input = None

abbrev pub halves_of : {N O I : Type 0} → Given N O I → Option (Halves O I)
halves_of g = with_input g.out g.input

-- the ends, and whether each is told as sealed
abbrev pub seals_told : {N O I : Type 0} → List (Given N O I) → List (EndId × Bool)
seals_told gs = map (λ g. (g.end, g.sealed)) gs

module _ {S O I N : Type 0} (K : Known S O I N) where
  -- the halves of one end were lent: all pipes are there still, and what is known of the halves of other pipes stays
  pub record LeavesBut (old new : S) (g : Given N O I) : Type 0 where
    pub there : (n : N) → IsThere K old n → IsThere K new n
    pub outs : (h : O) → IsThere K old (K.out_name h) → (is_some g.out ≡ true → IsElse K (K.out_name h) g.written) → K.writing new h ≡ K.writing old h
    pub ins : (h : I) → IsThere K old (K.in_name h) → IsElse K (K.in_name h) (K.in_name g.input) → K.reading new h ≡ K.reading old h

  -- one end changed, and is with its halves still, of the same pipes
  pub record OneEnd (old new : S) (g k : Given N O I) : Type 0 where
    pub leaves : LeavesBut old new g
    pub halves : IsGivenWith K new k
    pub held : held_given K.out_name K.in_name k ≡ held_given K.out_name K.in_name g
    pub fewer : is_some k.out ≡ true → is_some g.out ≡ true

  -- the pipe that an end read was settled, and the end is gone
  pub record OneGone (old new : S) (g : Given N O I) : Type 0 where
    pub written : (n : N) → IsElse K n (K.in_name g.input) → IsThere K old n → IsThere K new n
    pub outs : (h : O) → IsThere K old (K.out_name h) → IsElse K (K.out_name h) (K.in_name g.input) → K.writing new h ≡ K.writing old h
    pub ins : (h : I) → IsThere K old (K.in_name h) → IsElse K (K.in_name h) (K.in_name g.input) → K.reading new h ≡ K.reading old h

  -- one look at the front of the pipe that an end reads found this, and all else of the end is as it was
  pub record LooksAt (old new : S) (found : Front) (g k : Given N O I) : Type 0 where
    pub finds : FrontFinds (K.reading old g.input) found (K.reading new k.input)
    pub exact : SeesCommits K g.input k.input found old new
    pub keeps : KeepsButIn K g.input k.input old new
    pub end_is : k ≡ record g { input = k.input; met = met_after found g.met }

  -- one look at the front of the pipe that an end of an object reads found this
  pub record LooksOnce (old new : S) (o : ℕ) (e : EndId) (found : Front) (h : Holding N) : Type 0 where
    pub was : Given N O I
    pub back : Given N O I
    pub reads : read_in (h.ends o) e ≡ Some (K.in_name was.input)
    pub looks : LooksAt old new found was back

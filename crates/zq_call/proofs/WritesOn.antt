-- One write after another.
use Rattle.std.proofs.Common.{◌≡◌, ◌≤◌, ◌+◌, ℕ, List, ◌++◌, length, take, drop, Option, Some, None, append_assoc, sym}
use Rattle.std.proofs.Math.Seq.{take-add}
use Rattle.std.proofs.lemmas.List.{take-append-drop}
use Rattle.zq_outer.specs.Sink.{Appends, AppendsFront, Writes}
use Rattle.zq_outer.specs.declared.sink.Put.TheVariants.{Took, Failed}

take_two : (at n : ℕ) (text : List ℕ) → at + n ≤ length text → take at text ++ take n (drop at text) ≡ take (at + n) text
take_two at n text le = rw take-add

pub appends_on : (old mid new : Option (List ℕ)) (text : List ℕ) (at n : ℕ) → at + n ≤ length text
    → Appends old (take at text) mid → Writes mid new (Took n) (drop at text) → Appends old (take (at + n) text) new
appends_on None mid new text at n le first more = tt
appends_on (Some taken) mid new text at n le first more =
    let now : new ≡ Some ((taken ++ take at text) ++ take n (drop at text)) = rw first at more in
    rw (now, append_assoc, take_two at n text le)

-- a write that failed adds nothing
pub appends_failed : (old mid new : Option (List ℕ)) (front piece : List ℕ) → Appends old front mid → Writes mid new Failed piece → Appends old front new
appends_failed None mid new front piece first more = tt
appends_failed (Some taken) mid new front piece first more = rw first at more

pub front_of : (old mid new : Option (List ℕ)) (text : List ℕ) (at : ℕ) (piece : List ℕ) → Appends old (take at text) mid → Writes mid new Failed piece → AppendsFront old text new
front_of old mid new text at piece first more = (take at text, drop at text, sym (take-append-drop at text), appends_failed old mid new (take at text) piece first more)

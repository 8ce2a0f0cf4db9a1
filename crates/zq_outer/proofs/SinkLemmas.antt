-- Lemmas on several writes to a sink.
use Rattle.std.proofs.Common.{◌∙◌, ℕ, List, [], ◌++◌, take, Option, Some, None, sym, ap, subst, append_assoc}
use Rattle.std.proofs.lemmas.List.{append-nil}
use Rattle.zq_outer.specs.declared.sink.Put.TheVariants as put
use Rattle.zq_outer.specs.Sink.{Writes, Appends, AppendsFront}

-- before the first write
pub Appends-nil : (taken : Option (List ℕ)) → Appends taken [] taken
Appends-nil None = tt
Appends-nil (Some taken) = ap Some (sym (append-nil taken))

-- one write more
pub Appends-write : (before now after : Option (List ℕ)) (octets piece : List ℕ) (n : ℕ) → Appends before octets now → Writes now after (put.Took n) piece → Appends before (octets ++ take n piece) after
Appends-write None now after octets piece n h k = tt
Appends-write (Some taken) now after octets piece n h k =
    subst (λ taken. Writes taken after (put.Took n) piece) h k ∙ ap Some (append_assoc taken octets (take n piece))

-- a write that failed
pub Appends-failed : (before now after : Option (List ℕ)) (octets piece : List ℕ) → Appends before octets now → Writes now after put.Failed piece → Appends before octets after
Appends-failed None now after octets piece h k = tt
Appends-failed (Some taken) now after octets piece h k = subst (λ taken. Writes taken after put.Failed piece) h k

-- all is a front of it
pub AppendsFront-all : (before now : Option (List ℕ)) (octets : List ℕ) → Appends before octets now → AppendsFront before octets now
AppendsFront-all before now octets h = (octets, [], sym (append-nil octets), h)

-- Lemmas on several reads of a source.
use Rattle.std.proofs.Common.{◌∙◌, ℕ, List, [], ◌++◌, take, Option, Some, None, refl, sym, ap, subst, append_assoc}
use Rattle.std.proofs.lemmas.List.{append-nil}
use Rattle.zq_outer.specs.declared.source.Got.TheVariants as got
use Rattle.zq_outer.specs.Source.{Reads, Consumes, ConsumesAll}

-- before the first read
pub Consumes-nil : (left : Option (List ℕ)) → Consumes left [] left
Consumes-nil None = tt
Consumes-nil (Some left) = (left, refl, refl)

-- one read more
pub Consumes-read : (before now after : Option (List ℕ)) (octets buf : List ℕ) (n : ℕ) → Consumes before octets now → Reads now after (got.Bytes n) buf → Consumes before (octets ++ take n buf) after
Consumes-read None now after octets buf n h k = tt
Consumes-read (Some left) now after octets buf n h k =
    let read = subst (λ left. Reads left after (got.Bytes n) buf) h.2 k in
    (read.0, h.1 ∙ ap (λ rest. octets ++ rest) read.1 ∙ sym (append_assoc octets (take n buf) read.0), read.2)

-- a read that failed
pub Consumes-failed : (before now after : Option (List ℕ)) (octets buf : List ℕ) → Consumes before octets now → Reads now after got.Failed buf → Consumes before octets after
Consumes-failed None now after octets buf h k = tt
Consumes-failed (Some left) now after octets buf h k = (h.0, h.1, subst (λ left. Reads left after got.Failed buf) h.2 k)

-- the end
pub Consumes-end : (before now after : Option (List ℕ)) (octets buf : List ℕ) → Consumes before octets now → Reads now after got.End buf → ConsumesAll before octets after
Consumes-end None now after octets buf h k = tt
Consumes-end (Some left) now after octets buf h k =
    let end = subst (λ left. Reads left after got.End buf) h.2 k in
    (h.1 ∙ ap (λ rest. octets ++ rest) end.0 ∙ append-nil octets, end.1)

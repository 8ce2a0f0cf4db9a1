-- What is so of each peer that a socket lists is so of its partner, and of each peer that a name finds.
use Rattle.std.proofs.Common.{◌≡◌, ℕ, List, [], ◌∷◌, Bool, true, false, Option, Some, None, All, cond, map, subst}
use Rattle.std.specs.Prelude.{find, option_to_list}
use Rattle.std.specs.Str.{bytes_eq}
use Rattle.std.specs.Option.{option_map}
use Rattle.std.proofs.lemmas.Option.{same_Some, none-some}
use Rattle.std.proofs.lemmas.List.Elements.{All-head, All-tail}
use Rattle.spec_pattern.specs.TurnList.{End}
use Rattle.spec_pattern.specs.Routing.{Named, Names, named}
use Rattle.spec_pattern.specs.Peers.{named_peer}

-- what is so of a partner, and of a named peer
pub of_partner : (P : End → Type 0) (peer : Option End) → All P (option_to_list peer) → (e : End) → peer ≡ Some e → P e
of_partner P None all e is = absurd (none-some e is)
of_partner P (Some p) all e is = subst P (same_Some p e is) (All-head P p [] all)

pub of_named : (P : End → Type 0) (names : Names) (name : List ℕ) (e : End) → All P (map named_peer names) → named names name ≡ Some e → P e
of_named P [] name e all found = absurd (none-some e found)
of_named P (n ∷ ns) name e all found = by (bytes_eq n.name name) found (of_named P ns name e (All-tail P n.peer (map named_peer ns) all))
  where
    by : (b : Bool) → option_map named_peer (cond b (Some n) (find (λ (x : Named). bytes_eq x.name name) ns)) ≡ Some e → (named ns name ≡ Some e → P e) → P e
    by true is later = subst P (same_Some n.peer e is) (All-head P n.peer (map named_peer ns) all)
    by false is later = later is

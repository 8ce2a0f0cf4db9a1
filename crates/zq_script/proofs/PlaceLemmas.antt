-- The endpoints that a script may name are those inproc endpoints whose text the word is.
use Rattle.std.proofs.Common.{◌≡◌, ◌≢◌, refl, ap, sym, subst, ◌∙◌, ◌++◌, List, ℕ, true, false, ⊎_elim, arith, drop}
use Rattle.std.specs.Prelude.{Ok, Err, codes, ◌&&◌, nat_eq, if◌then◌else◌}
use Rattle.std.specs.Char.{is_ascii_graphic}
use Rattle.std.specs.List.{list_all, starts_with}
use Rattle.std.proofs.lemmas.Bool.{cases_Bool, and_parts}
use Rattle.std.proofs.lemmas.Bool.Decides.{Decides-eqb}
use Rattle.std.proofs.lemmas.Grind.{common_steps}
use Rattle.std.proofs.lemmas.List.Elements.{All-weaker}
use Rattle.std.proofs.lemmas.List.Sums.{AllPass-from_list_all, list_all-from_AllPass}
use Rattle.std.proofs.lemmas.Slice.Eq.{starts_is}
use Rattle.zq_base.specs.Endpoint.{IsGraphic, IsName, IsEndpoint, address_text, endpoint_text, tcp_scheme}
use Rattle.zq_base.specs.declared.endpoint.Address.{Address}
use Rattle.zq_base.specs.declared.endpoint.Endpoint.{Endpoint}
use Rattle.zq_base.specs.declared.endpoint.Endpoint.TheVariants.{Inproc, Tcp}
use Rattle.zq_script.specs.Place.{endpoint_of, is_inproc_name}
use Rattle.zq_script.specs.declared.fault.Cause.TheVariants.{BadEndpoint}

-- the test of a name passes names
pub is_inproc_name-IsName : (name : List ℕ) → IsName name → is_inproc_name name ≡ true
unfolding is_inproc_name
is_inproc_name-IsName name h =
    let graphic : list_all is_ascii_graphic name ≡ true = list_all-from_AllPass is_ascii_graphic name (All-weaker IsGraphic (λ o. is_ascii_graphic o ≡ true) (λ o g. grind (arith, common_steps)) name h.graphic) in
    grind (arith, common_steps)

-- and nothing else
pub IsName-is_inproc_name : (name : List ℕ) → is_inproc_name name ≡ true → IsName name
unfolding is_inproc_name
IsName-is_inproc_name name e =
    let all : list_all is_ascii_graphic name ≡ true = grind (arith, common_steps) in record {
      some = grind (arith, common_steps);
      few = grind (arith, common_steps);
      graphic = All-weaker (λ o. is_ascii_graphic o ≡ true) IsGraphic (λ o g. (grind (arith, common_steps), grind (arith, common_steps))) name (AllPass-from_list_all is_ascii_graphic name all);
    }

-- an inproc endpoint is read
pub endpoint_of-inproc : (word name : List ℕ) → IsName name → word ≡ endpoint_text (Inproc name) → endpoint_of word ≡ Ok (Inproc name)
unfolding endpoint_of
endpoint_of-inproc word name h e =
    let named = is_inproc_name-IsName name h in
    subst (λ w. endpoint_of w ≡ Ok (Inproc name)) (sym e) (ap (λ b. if b then Ok (Inproc name) else Err BadEndpoint) named)

-- a tcp endpoint isn't
pub endpoint_of-tcp : (word rest : List ℕ) → word ≡ tcp_scheme ++ rest → endpoint_of word ≡ Err BadEndpoint
unfolding endpoint_of
endpoint_of-tcp word rest e = subst (λ w. endpoint_of w ≡ Err BadEndpoint) (sym e) refl

-- nor is what is no endpoint
pub endpoint_of-other : (word : List ℕ) → ((e : Endpoint) → IsEndpoint e → word ≢ endpoint_text e) → endpoint_of word ≡ Err BadEndpoint
unfolding endpoint_of
endpoint_of-other word none =
    ⊎_elim
    (λ (y : (starts_with nat_eq word (codes "inproc://") && is_inproc_name (drop 9 word)) ≡ true).
    let parts = and_parts _ _ y in
    let spelt = (starts_is Decides-eqb word (codes "inproc://") _ refl).0 parts.0 in
    absurd (none (Inproc (drop 9 word)) (IsName-is_inproc_name (drop 9 word) parts.1) spelt))
    (λ (n : (starts_with nat_eq word (codes "inproc://") && is_inproc_name (drop 9 word)) ≡ false). ap (λ b. if b then Ok (Inproc (drop 9 word)) else Err BadEndpoint) n)
    (cases_Bool (starts_with nat_eq word (codes "inproc://") && is_inproc_name (drop 9 word)))

-- the endpoint that was read is the word's, if it is an inproc one
pub endpoint_of-read : (word : List ℕ) (endpoint : Endpoint) → IsEndpoint endpoint → word ≡ endpoint_text endpoint
    → ((name : List ℕ) → endpoint ≡ Inproc name → endpoint_of word ≡ Ok (Inproc name)) × ((address : Address) → endpoint ≡ Tcp address → endpoint_of word ≡ Err BadEndpoint)
endpoint_of-read word (Inproc named) h e = (λ name same. endpoint_of-inproc word named h e ∙ ap Ok same, λ address same. cc)
endpoint_of-read word (Tcp at) h e = (λ name same. cc, λ address same. endpoint_of-tcp word (address_text at) e)

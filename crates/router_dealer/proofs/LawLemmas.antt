-- A ROUTER over places is the ROUTER of the definitions over the ends at these places.
use Rattle.std.proofs.Common.{◌≡◌, ◌↔◌, ◌==◌, ◌++◌, ◌+◌, ℕ, Bool, true, false, cond, not, filter, map, List, [], ◌∷◌, Option, None, Some, Result, Ok, Err, refl, sym, ap, ◌∙◌, nat_eq, is_some}
use Rattle.std.proofs.lemmas.List.{map-append}
use Rattle.std.proofs.lemmas.List.Elements.{All-head, All-tail}
use Rattle.std.specs.Prelude.{IfOk}
use Rattle.std.specs.Option.{option_map}
use Rattle.std.specs.declared.alloc.AllocError.{AllocError}
use Rattle.zq_base.specs.declared.attached.Attached.{Attached}
use Rattle.zq_base.specs.declared.attached.Attached.TheVariants.{Yes, BadId, Second}
use Rattle.msg_pipe.specs.Turns.{without_place}
use Rattle.spec_pattern.specs.PipeStep.{same_pipe}
use Rattle.spec_pattern.specs.TurnList.{End}
use Rattle.spec_pattern.specs.Routing.{Named, Names, drawn_name}
use Rattle.spec_pattern.specs.Pattern.{Router, attach, attach_as, attach_answer, without}
use Rattle.router_dealer.specs.PlaceNames.{PlaceName, names_at, place_named, without_name_at}
use Rattle.router_dealer.specs.Named.{RouterState, IsTaken, Attaches, attached_state}
use Rattle.router_dealer.specs.Laws.{router_at, AttachesTheEnd, DetachesTheEnd, IsNoOther}
use Rattle.router_dealer.proofs.PlaceNamesLemmas.{turned, named-names_at}

module _ (ends : ℕ → End) (place : ℕ) where
  -- routers of the same parts
  same_router : (ins ins' : List End) (names names' : Names) (drawn : ℕ) (mandatory : Bool) → ins ≡ ins' → names ≡ names'
      → Router (record { ins = ins; names = names; drawn = drawn; mandatory = mandatory })
      ≡ Router (record { ins = ins'; names = names'; drawn = drawn; mandatory = mandatory })
  same_router ins ins' names names' drawn mandatory e f =
      λ i. Router (record { ins = e i; names = f i; drawn = drawn; mandatory = mandatory })

  -- a peer more
  names_at-push : (names : List PlaceName) (name : List ℕ)
      → names_at ends (names ++ record { name = name; place = place } ∷ []) ≡ names_at ends names ++ record { name = name; peer = ends place } ∷ []
  names_at-push names name = map-append (λ (n : PlaceName). record { name = n.name; peer = ends n.place }) names (record { name = name; place = place } ∷ [])

  pub taken_in_at : (identity : List ℕ) (r : RouterState)
      → router_at ends (attached_state identity place r) ≡ attach_as Yes (ends place) identity (router_at ends r)
  taken_in_at [] r = same_router _ _ _ _ (r.drawn + 1) r.mandatory (map-append ends r.ins (place ∷ [])) (names_at-push r.names (drawn_name (r.drawn + 1)))
  taken_in_at (octet ∷ octets) r = same_router _ _ _ _ r.drawn r.mandatory (map-append ends r.ins (place ∷ [])) (names_at-push r.names (octet ∷ octets))

  -- whether a peer is taken
  free_answer : (identity : List ℕ) (r : RouterState) → (IsTaken r.names identity → ⊥) → attach_answer identity (router_at ends r) ≡ Yes
  free_answer [] r free = refl
  free_answer (octet ∷ octets) r free =
      ap (λ o. cond (is_some o) BadId Yes) (named-names_at ends r.names (octet ∷ octets))
      ∙ by (place_named r.names (octet ∷ octets)) refl
    where
      by : (o : Option ℕ) → place_named r.names (octet ∷ octets) ≡ o → cond (is_some (option_map ends o)) BadId Yes ≡ Yes
      by None e = refl
      by (Some k) e = absurd (free (ap is_some e))

  taken_answer : (identity : List ℕ) (r : RouterState) → IsTaken r.names identity → attach_answer identity (router_at ends r) ≡ BadId
  taken_answer [] r taken = absurd taken
  taken_answer (octet ∷ octets) r taken =
      ap (λ o. cond (is_some o) BadId Yes) (named-names_at ends r.names (octet ∷ octets))
      ∙ by (place_named r.names (octet ∷ octets)) taken
    where
      by : (o : Option ℕ) → is_some o ≡ true → cond (is_some (option_map ends o)) BadId Yes ≡ BadId
      by None e = absurd (cc e)
      by (Some k) e = refl

  yes_or_bad : (result : Result Attached AllocError) → result ≡ Ok Yes → result ≡ Ok BadId → ⊥
  yes_or_bad result e f = cc

  attaches : (identity : List ℕ) (old new : RouterState) (result : Result Attached AllocError)
      → Attaches identity place old result new → (result ≡ Ok BadId) ↔ IsTaken old.names identity
      → IfOk result (λ answer. (answer ≡ attach_answer identity (router_at ends old)) × (router_at ends new ≡ attach (ends place) identity (router_at ends old)))
  attaches identity old new (Ok Yes) did bad =
      let answer = free_answer identity old (λ taken. yes_or_bad (Ok Yes) refl (bad.1 taken)) in
      (sym answer, ap (router_at ends) did ∙ taken_in_at identity old ∙ ap (λ a. attach_as a (ends place) identity (router_at ends old)) (sym answer))
  attaches identity old new (Ok BadId) did bad =
      let answer = taken_answer identity old (bad.0 refl) in
      (sym answer, ap (router_at ends) did ∙ ap (λ a. attach_as a (ends place) identity (router_at ends old)) (sym answer))
  attaches identity old new (Ok Second) did bad = absurd did
  attaches identity old new (Err e) did bad = tt

  -- a peer fewer
  ins_without : (ins : List ℕ) → IsNoOther ends place ins → map ends (without_place place ins) ≡ without (ends place) (map ends ins)
  ins_without [] one = refl
  ins_without (k ∷ ins) one =
      let P = λ (k : ℕ). same_pipe (ends place) (ends k) ≡ nat_eq place k in
      by (k == place) (same_pipe (ends place) (ends k)) (turned k place ∙ sym (All-head P k ins one)) (ins_without ins (All-tail P k ins one))
    where
      by : (b c : Bool) → b ≡ c → map ends (without_place place ins) ≡ without (ends place) (map ends ins)
          → map ends (cond (not b) (k ∷ without_place place ins) (without_place place ins))
          ≡ cond (not c) (ends k ∷ without (ends place) (map ends ins)) (without (ends place) (map ends ins))
      by true true e rest = rest
      by false false e rest = ap (λ l. ends k ∷ l) rest
      by true false e rest = absurd (cc e)
      by false true e rest = absurd (cc e)

  names_without : (names : List PlaceName) → IsNoOther ends place (map (λ n. n.place) names)
      → names_at ends (without_name_at place names) ≡ filter (λ (n : Named). not (same_pipe (ends place) n.peer)) (names_at ends names)
  names_without [] one = refl
  names_without (n ∷ names) one =
      let P = λ (k : ℕ). same_pipe (ends place) (ends k) ≡ nat_eq place k in
      let places = map (λ (n : PlaceName). n.place) names in
      by (nat_eq place n.place) (same_pipe (ends place) (ends n.place)) (sym (All-head P n.place places one)) (names_without names (All-tail P n.place places one))
    where
      by : (b c : Bool) → b ≡ c → names_at ends (without_name_at place names) ≡ filter (λ (n : Named). not (same_pipe (ends place) n.peer)) (names_at ends names)
          → names_at ends (cond (not b) (n ∷ without_name_at place names) (without_name_at place names))
          ≡ cond (not c) (record { name = n.name; peer = ends n.place } ∷ filter (λ (n : Named). not (same_pipe (ends place) n.peer)) (names_at ends names)) (filter (λ (n : Named). not (same_pipe (ends place) n.peer)) (names_at ends names))
      by true true e rest = rest
      by false false e rest = ap (λ (l : Names). record { name = n.name; peer = ends n.place } ∷ l) rest
      by true false e rest = absurd (cc e)
      by false true e rest = absurd (cc e)

pub attaches_the_end : AttachesTheEnd
attaches_the_end ends identity place = attaches ends place identity

pub detaches_the_end : DetachesTheEnd
detaches_the_end ends place r ins names =
    same_router ends place _ _ _ _ r.drawn r.mandatory (ins_without ends place r.ins ins) (names_without ends place r.names names)

-- Calls that attach no end and settle no pipe leave the ends of others apart.
use Rattle.std.specs.Prelude.{◌≡◌, ◌≤◌, ℕ, All, List, Some, length}
use Rattle.std.proofs.Common.{arith, sym, subst}
use Rattle.msg_pipe.specs.Known.{Known, IsElse}
use Rattle.end_table.specs.declared.table.Place.{Place}
use Rattle.end_table.specs.Places.{place_at}
use Rattle.end_table.specs.Others.{IsLess, KeepsPlaces}
use Rattle.end_table.proofs.EndsLemmas.{some_place}
use Rattle.end_table.proofs.PlaceLemmas.{place_within}
use Rattle.core_laws.specs.Laws.{ClosedAreApart}

-- an end that has a place had it
record WasAt {N I : Type 0} (ps : List (Place N I)) (k : ℕ) (q : Place N I) : Type 0 where
  pub place : Place N I
  pub there : place_at ps k ≡ Some place
  pub less : IsLess place q

was_at : {N I : Type 0} (ps qs : List (Place N I)) → KeepsPlaces ps qs → length qs ≤ length ps → (k : ℕ) (q : Place N I) → place_at qs k ≡ Some q → WasAt ps k q
was_at ps qs keeps most k q at =
    let within = place_within qs k q at in
    let was = some_place ps k (omega (arith, within, most)) in
    record { place = was.0; there = was.1; less = keeps.each k was.0 q was.1 at }

pub closed_are_apart : {P N O I : Type 0} (K : Known P O I N) → ClosedAreApart K
closed_are_apart K from to keeps most settled p apart = record {
  outs = λ writes k q at wrote.
      let was = was_at from.places.items to.places.items keeps most k q at in
      let less = was.less in
      subst (IsElse K p.written) (sym less.written_is) (apart.outs writes k was.place was.there wrote);
  unsettled = λ writes. subst (λ xs. All (λ x. IsElse K p.written x.0) xs) (sym settled) (apart.unsettled writes);
  ins = λ k q at had.
      let was = was_at from.places.items to.places.items keeps most k q at in
      let less = was.less in
      subst (IsElse K p.read) (sym less.read_is) (apart.ins k was.place was.there had);
}

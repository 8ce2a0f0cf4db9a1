-- A socket's peers among its ends, as calls on messages find them.
use Rattle.std.proofs.Common.{◌≡◌, ◌&&◌, ◌||◌, ◌∙◌, ℕ, zero, suc, Bool, true, false, List, [], ◌∷◌, All, Some, refl, sym, ap, nat_eq, eqb-true, true≢false}
use Rattle.std.specs.Prelude.{slice_index_or}
use Rattle.zq_base.specs.Ends.{PipeId}
use Rattle.zq_base.specs.declared.ids.EndId.{EndId}
use Rattle.spec_pattern.specs.PipeStep.{same_pipe}
use Rattle.msg_pipe.specs.Known.{Known}
use Rattle.end_table.specs.declared.row.EndRow.{EndRow}
use Rattle.end_table.specs.Rows.{Rows, row_at, IsRow, end_of, can_write_of}
use Rattle.std.proofs.lemmas.Bool.{eq-eqb}
use Rattle.end_table.proofs.StepLemmas.{own_pipe, other_pipe}
use Rattle.spec_pattern.specs.AtPlaces.{TellsWritable}
use Rattle.pub_sub.specs.Places.{AreApart}
use Rattle.pub_sub.proofs.KnownLemmas.{place_of_all}
use Rattle.any_sock.specs.Told.{Agree}
use Rattle.end_table.specs.declared.table.Place.{Place}
use Rattle.std.specs.List.{list_any}
use Rattle.end_table.specs.Places.{place_at, is_of, writes_in}
use Rattle.end_table.specs.Sound.{IsSound, WritesSo, StandsSo}
use Rattle.sock_core.specs.Peers.{ArePeers, peer_of, peer_at}
use Rattle.sock_core.specs.Lent.{IsNaming, IsTest}

both_true : (a b : Bool) → (a && b) ≡ true → (a ≡ true) × (b ≡ true)
both_true true b h = (refl, h)
both_true false b h = absurd (true≢false (sym h))

module _ {N I : Type 0} where
  -- a peer stands where one is
  place_of_peer : (ps : List (Place N I)) (k : ℕ) → peer_at ps k ≡ true → (p : Place N I) × (place_at ps k ≡ Some p) × (peer_of p ≡ true)
  place_of_peer [] k h = absurd (true≢false (sym h))
  place_of_peer (x ∷ xs) zero h = (x, refl, h)
  place_of_peer (x ∷ xs) (suc k) h = place_of_peer xs k h

  held_peer : (p : Place N I) → peer_of p ≡ true → p.held ≡ true
  held_peer p h = (both_true p.held (p.writes && p.peer) h).0

  -- an end whose writing half is there is held
  pub writer_held : (e : EndId) (ps : List (Place N I)) → writes_in ps e ≡ true → list_any (is_of e) ps ≡ true
  writer_held e [] h = h
  writer_held e (x ∷ xs) h = by x.writes (is_of e x) h (writer_held e xs)
    where
      by : (w b : Bool) → ((w && b) || writes_in xs e) ≡ true → (writes_in xs e ≡ true → list_any (is_of e) xs ≡ true) → (b || list_any (is_of e) xs) ≡ true
      by true true h rest = refl
      by true false h rest = rest h
      by false true h rest = refl
      by false false h rest = rest h

-- the end at each place, and whether it can be written, by its row
abbrev pub row_end : {O I : Type 0} → Rows O I → ℕ → PipeId
row_end rows k = end_of (row_at rows k)

abbrev pub row_open : {O I : Type 0} → Rows O I → ℕ → Bool
row_open rows k = can_write_of (row_at rows k)

module _ {S O I N : Type 0} (K : Known S O I N) (pipes : S) (rows : Rows O I) (places : List (Place N I)) (sound : IsSound K pipes rows places) where
  -- a peer with its row
  record IsPeer (k : ℕ) : Type 0 where
    place : Place N I
    there : place_at places k ≡ Some place
    is_peer : peer_of place ≡ true
    row : EndRow O I
    here : row_at rows k ≡ Some row
    stands : WritesSo K pipes row place

  peer_here : (k : ℕ) → peer_at places k ≡ true → IsPeer k
  peer_here k h =
      let p = place_of_peer places k h in
      let held = both_true p.0.held (p.0.writes && p.0.peer) p.2 in
      let writes = both_true p.0.writes p.0.peer held.1 in
      by p.0 p.1 p.2 p.0.held p.0.writes refl refl held.0 writes.0 (sound.stands k p.0 p.1)
    where
      by : (p : Place N I) → place_at places k ≡ Some p → peer_of p ≡ true → (h w : Bool) → p.held ≡ h → p.writes ≡ w → p.held ≡ true → p.writes ≡ true → StandsSo K pipes (row_at rows k) p h w → IsPeer k
      by p at is false w eh ew held writes s = absurd (true≢false (sym held ∙ eh))
      by p at is true false eh ew held writes s = absurd (true≢false (sym writes ∙ ew))
      by p at is true true eh ew held writes s = record { place = p; there = at; is_peer = is; row = s.0; here = s.1; stands = s.2 }

  module _ (peers : List ℕ) (all : ArePeers places peers) where
    pub rows_there : All (IsRow rows) peers
    rows_there = λ k d lt. let r = peer_here (slice_index_or peers k d) (all k d lt) in (r.row, r.here)

    -- two namings of the ends agree
    pub names_agree : (ends : ℕ → EndId) → IsNaming ends places → Agree ends (row_end rows) peers
    names_agree ends names = λ k d lt.
        let n = slice_index_or peers k d in
        let r = peer_here n (all k d lt) in
        names n r.place r.there r.is_peer ∙ sym (ap end_of r.here ∙ r.stands.end_is)

    -- what a test says of the peers it says of their rows
    pub tests_agree : (test : EndId → Bool) → IsTest test places → TellsWritable test (row_end rows) (row_open rows) peers
    tests_agree test is = λ k d lt.
        let n = slice_index_or peers k d in
        let r = peer_here n (all k d lt) in
        ap test (ap end_of r.here ∙ r.stands.end_is) ∙ is n r.place r.there r.is_peer ∙ sym (ap can_write_of r.here ∙ r.stands.writable_is)

    pub rows_apart : AreApart (row_end rows) peers
    rows_apart p q here there = by (nat_eq p q) refl
      where
        one : IsPeer p
        one = peer_here p (place_of_all (λ k. peer_at places k ≡ true) peers p all here)

        other : IsPeer q
        other = peer_here q (place_of_all (λ k. peer_at places k ≡ true) peers q all there)

        by : (b : Bool) → nat_eq p q ≡ b → same_pipe (row_end rows p) (row_end rows q) ≡ b
        by true same = ap (λ (n : ℕ). same_pipe (row_end rows p) (row_end rows n)) (sym (eqb-true p q same)) ∙ own_pipe (row_end rows p)
        by false off = other_pipe (row_end rows p) (row_end rows q) (λ alike.
            (sound.apart p q one.place other.place (λ same. true≢false (sym (eq-eqb p q same) ∙ off)) one.there other.there (held_peer one.place one.is_peer) (held_peer other.place other.is_peer)).ends
            (sym (ap end_of one.here ∙ one.stands.end_is) ∙ alike ∙ (ap end_of other.here ∙ other.stands.end_is)))

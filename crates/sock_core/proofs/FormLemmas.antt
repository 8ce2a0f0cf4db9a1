-- The two forms of what stands at the places of a socket.
use Rattle.std.proofs.Common.{◌≡◌, Bool, true, false, List, Option, Some, None, is_some, refl, sym, ap, ◌∙◌, subst, true≢false}
use Rattle.msg_pipe.specs.Known.{Known}
use Rattle.end_table.specs.declared.row.EndRow.{EndRow}
use Rattle.end_table.specs.Rows.{Rows, row_at}
use Rattle.end_table.specs.declared.table.Place.{Place}
use Rattle.end_table.specs.Sound.{ReadsSo, WritesSo, StandsSo, IsSound}
use Rattle.end_table.proofs.SoundLemmas.{one_some}
use Rattle.sock_core.specs.Sound.{IsStanding, AreSound}

the_some : {A : Type 0} (x : Option A) → is_some x ≡ true → (a : A) × (x ≡ Some a)
the_some None h = absurd (true≢false (sym h))
the_some (Some a) h = (a, refl)

the_none : {A : Type 0} (x : Option A) → is_some x ≡ false → x ≡ None
the_none None h = refl
the_none (Some a) h = absurd (true≢false h)

module _ {S O I N : Type 0} (K : Known S O I N) where
  one_form : (pipes : S) (row : Option (EndRow O I)) (p : Place N I) → IsStanding K pipes row p → (h w : Bool) → p.held ≡ h → p.writes ≡ w → StandsSo K pipes row p h w
  one_form pipes row p s false w eh ew = the_none row (s.gone eh)
  one_form pipes row p s true true eh ew =
      let r = the_some row (s.row_there eh ew) in
      (r.0, r.1, s.row_is r.0 r.1 eh ew)
  one_form pipes row p s true false eh ew =
      let i = the_some p.input (s.input_there eh ew) in
      (i.0, the_none row (s.no_row eh ew), i.1, s.input_is i.0 i.1 eh ew)

  other_form : (pipes : S) (row : Option (EndRow O I)) (p : Place N I) (h w : Bool) → p.held ≡ h → p.writes ≡ w → StandsSo K pipes row p h w → IsStanding K pipes row p
  other_form pipes row p false w eh ew s = record {
    gone = λ _. ap is_some s;
    row_there = λ h _. absurd (true≢false (sym h ∙ eh));
    row_is = λ r e h _. absurd (true≢false (sym h ∙ eh));
    no_row = λ h _. absurd (true≢false (sym h ∙ eh));
    input_there = λ h _. absurd (true≢false (sym h ∙ eh));
    input_is = λ i e h _. absurd (true≢false (sym h ∙ eh));
  }
  other_form pipes row p true true eh ew s = record {
    gone = λ h. absurd (true≢false (sym eh ∙ h));
    row_there = λ _ _. ap is_some s.1;
    row_is = λ r e _ _. subst (λ (x : EndRow O I). WritesSo K pipes x p) (one_some s.0 r (sym s.1 ∙ e)) s.2;
    no_row = λ _ f. absurd (true≢false (sym ew ∙ f));
    input_there = λ _ f. absurd (true≢false (sym ew ∙ f));
    input_is = λ i e _ f. absurd (true≢false (sym ew ∙ f));
  }
  other_form pipes row p true false eh ew s = record {
    gone = λ h. absurd (true≢false (sym eh ∙ h));
    row_there = λ _ t. absurd (true≢false (sym t ∙ ew));
    row_is = λ r e _ t. absurd (true≢false (sym t ∙ ew));
    no_row = λ _ _. ap is_some s.1;
    input_there = λ _ _. ap is_some s.2;
    input_is = λ i e _ _. subst (λ (x : I). ReadsSo K pipes x p) (one_some s.0 i (sym s.2 ∙ e)) s.3;
  }

  pub sound_of : (pipes : S) (rows : Rows O I) (places : List (Place N I)) → AreSound K pipes rows places → IsSound K pipes rows places
  sound_of pipes rows places s = record {
    count = s.count;
    stands = λ k p at. one_form pipes (row_at rows k) p (s.stands k p at) p.held p.writes refl refl;
    apart = s.apart;
    crossed = s.crossed;
  }

  pub are_sound : (pipes : S) (rows : Rows O I) (places : List (Place N I)) → IsSound K pipes rows places → AreSound K pipes rows places
  are_sound pipes rows places s = record {
    count = s.count;
    stands = λ k p at. other_form pipes (row_at rows k) p p.held p.writes refl refl (s.stands k p at);
    apart = s.apart;
    crossed = s.crossed;
  }

-- What is shown of a context is what its calls did.
use Rattle.std.specs.Prelude.{◌≡◌, ◌+◌, ℕ, Bool, true, false, List, [], ◌∷◌, Option, Some, None, drop, find, if◌then◌else◌, map, refl}
use Rattle.std.specs.Option.{option_map}
use Rattle.std.proofs.Common.{arith, sym, ap, ◌∙◌, subst}
use Rattle.zq_base.specs.Ends.{PipeId, other_end}
use Rattle.zq_base.specs.declared.ids.EndId.{EndId}
use Rattle.spec_pattern.specs.PipeStep.{PipeStep}
use Rattle.spec_control.specs.Rows.{PairRow}
use Rattle.spec_control.specs.Control.{Control, Settlement, end_of, is_end}
use Rattle.spec_control.specs.Reply.{root_state}
use Rattle.spec_run.specs.declared.journal.SettledRow.{SettledRow}
use Rattle.spec_run.specs.Fate.{is_heard_at}
use Rattle.spec_run.specs.InTurns.{is_ended}
use Rattle.spec_run.specs.OwnedRun.{settlement_of, IsCountedBy, AreCountedBy}
use Rattle.spec_run.specs.Journal.{line_of, object_shown, rows_by}
use Rattle.zq_world.specs.Piece.{Piece, pipe_steps}
use Rattle.zq_world.specs.declared.cores.Shown.{Shown}
use Rattle.zq_world.specs.Shown.{row_in_pieces, ShowsEnd}
use Rattle.socket_laws.specs.Given.{RowsAreCounted}
use Rattle.core_laws.specs.Drops.{row_dropped, DropsGoOn}
use Rattle.core_laws.specs.Table.{drops_in}
use Rattle.plain_core.specs.Dropped.{AreShownBy}
use Rattle.plain_core.specs.Settled.{row_in}

rows_alike : (f g : PipeId → Option SettledRow) → ((p : PipeId) → f p ≡ g p) → (n : ℕ) (ps : List PairRow) → rows_by f n ps ≡ rows_by g n ps
rows_alike f g same n [] = refl
rows_alike f g same n (p ∷ ps) =
    ap (λ (r : Option SettledRow). r ∷ f (end_of n false) ∷ rows_by f (n + 1) ps) (same (end_of n true))
    ∙ ap (λ (r : Option SettledRow). g (end_of n true) ∷ r ∷ rows_by f (n + 1) ps) (same (end_of n false))
    ∙ ap (λ (rs : List (Option SettledRow)). g (end_of n true) ∷ g (end_of n false) ∷ rs) (rows_alike f g same (n + 1) ps)

-- a settlement that is found is one of those that are counted
found_counted : (steps : List PipeStep) (e : EndId) (ss : List Settlement) (s : Settlement) → AreCountedBy steps ss → find (λ (x : Settlement). is_end e x.end) ss ≡ Some s → IsCountedBy steps s
found_counted steps e [] s all h = absurd (none_some h)
  where
    none_some : None ≡ Some s → ⊥
    none_some h = grind arith
found_counted steps e (x ∷ ss) s all h = by (is_end e x.end) h (λ found. found_counted steps e ss s all.1 found)
  where
    some_is : Some x ≡ Some s → x ≡ s
    some_is e = grind arith

    by : (b : Bool) → (if b then Some x else find (λ (y : Settlement). is_end e y.end) ss) ≡ Some s → (find (λ (y : Settlement). is_end e y.end) ss ≡ Some s → IsCountedBy steps s) → IsCountedBy steps s
    by true found rest = subst (IsCountedBy steps) (some_is found) all.0
    by false found rest = rest found

module _ {N S : Type 0} (go_on : DropsGoOn N S) (rows : RowsAreCounted N S) (c : Control) (drops : List ℕ) (pieces : List (Piece N S)) (by_these : AreShownBy c drops pieces) where
  row_of_pieces : (p : PipeId) → row_in c drops p ≡ row_in_pieces c pieces p
  row_of_pieces p = by (settlement_of c p) refl
    where
      by : (o : Option Settlement) → settlement_of c p ≡ o → row_in c drops p ≡ row_in_pieces c pieces p
      by None at = ap (λ (o : Option Settlement). option_map (λ (s : Settlement). row_dropped (is_heard_at c p) p (drops_in drops p) s) o) at ∙ sym (rows.unsettled c pieces p at)
      by (Some s) at =
          ap (λ (o : Option Settlement). option_map (λ (s : Settlement). row_dropped (is_heard_at c p) p (drops_in drops p) s) o) at
          ∙ ap (λ (n : ℕ). Some (row_dropped (is_heard_at c p) p n s)) (by_these.dropped p)
          ∙ sym (go_on.settled c pieces p s at (found_counted (pipe_steps pieces) (other_end p) c.settlements s by_these.counted at))

  pub shows_pieces : (shown : Shown) → shown.ended ≡ map (line_of c) c.ended → shown.pipes ≡ rows_by (row_in c drops) 1 (drop 1 c.rows.pairs)
      → shown.objects ≡ map object_shown c.rows.objects → shown.done ≡ is_ended (root_state c) → ShowsEnd c pieces shown
  shows_pieces shown ended pipes objects done = record {
    ended = ended;
    pipes = pipes ∙ rows_alike (row_in c drops) (row_in_pieces c pieces) row_of_pieces 1 (drop 1 c.rows.pairs);
    objects = objects;
    done_is = done;
  }

-- Steps of calls at rows are at the ends of these rows.
use Rattle.std.specs.Prelude.{◌≡◌, ◌≢◌, ◌<◌, ◌≤◌, ◌==◌, ℕ, Bool, true, false, List, [], ◌∷◌, Some, None, cond, refl}
use Rattle.std.specs.List.{AllByRecursion}
use Rattle.std.proofs.Common.{arith, sym, ap, ◌∙◌, subst, ⊎_elim}
use Rattle.std.proofs.lemmas.Bool.{eqb-true}
use Rattle.zq_base.specs.declared.ids.EndId.{EndId}
use Rattle.zq_base.specs.Ends.{other_end}
use Rattle.spec_pattern.specs.PipeStep.{PipeStep, Commit, FullLook, RoomLook, Take, EmptyLook, DelimiterLook, WaitingLook, Seal, read_through}
use Rattle.spec_pattern.specs.Half.{Writing, Reading}
use Rattle.msg_pipe.specs.Known.{Known}
use Rattle.end_table.specs.declared.row.EndRow.{EndRow}
use Rattle.end_table.specs.Rows.{Table, row_at}
use Rattle.end_table.specs.Runs.{OutDoes, InDoes, CallsAt, OutCall, InCall, DoesOne, DoesAll}
use Rattle.end_table.proofs.HeldLemmas.{row_after}
use Rattle.spec_control.specs.Control.{Control, next_object, next_pair, owner_of, with_value}
use Rattle.socket_laws.specs.Sides.{step_end, IsDoneAt, OpenSockets, OpensGoOn}
use Rattle.socket_laws.specs.Rows.{AreRowsAt, StepsAreAtRows, OpensChange}
use Rattle.socket_laws.proofs.CallLemmas.{steps_back}
use Rattle.socket_laws.proofs.CountedLemmas.{other_twice}

-- the end of a step that a half made
out_at : (e : EndId) (s : PipeStep) (v w : Writing) → OutDoes e s v w → step_end s ≡ e
out_at e (Commit q m) v w does = does.0
out_at e (FullLook q) v w does = does.0
out_at e (RoomLook q) v w does = does.0
out_at e (Seal q) v w does = does.0
out_at e (Take q m) v w does = elim does [ ]
out_at e (EmptyLook q) v w does = elim does [ ]
out_at e (DelimiterLook q) v w does = elim does [ ]
out_at e (WaitingLook q) v w does = elim does [ ]

in_at : (e : EndId) (s : PipeStep) (v w : Reading) → InDoes (read_through e) s v w → step_end s ≡ e
in_at e (Take q m) v w does = ap other_end does.0 ∙ other_twice e
in_at e (EmptyLook q) v w does = ap other_end does.0 ∙ other_twice e
in_at e (DelimiterLook q) v w does = ap other_end does.0 ∙ other_twice e
in_at e (WaitingLook q) v w does = ap other_end does.0 ∙ other_twice e
in_at e (Commit q m) v w does = elim does [ ]
in_at e (FullLook q) v w does = elim does [ ]
in_at e (RoomLook q) v w does = elim does [ ]
in_at e (Seal q) v w does = elim does [ ]

module _ {S O I N : Type 0} (K : Known S O I N) (c : Control) (may : ℕ → Bool) where
  -- an end of a pair that has its number, and of such an object
  abbrev IsIn : EndId → Type 0
  IsIn e = (e.pair.0 < next_pair c) × (may (owner_of c e) ≡ true)

  done_in : (s : PipeStep) (e : EndId) → step_end s ≡ e → IsIn e → IsDoneAt c (λ i. may i ≡ true) s
  done_in s e at is = let here : IsIn (step_end s) = subst IsIn (sym at) is in record { made = here.0; owner = λ plain. here.1 }

  rows_then : (old new : Table S O I) (place : ℕ) (row back : EndRow O I) → CallsAt K old new place row back → AreRowsAt c may old.rows → AreRowsAt c may new.rows
  rows_then old new place row back at rows k r here = ⊎_elim
      (λ (h : (k ≡ place) × (back ≡ r)). subst (λ (x : EndRow O I). IsIn x.end) h.1 (subst IsIn (sym at.end_is) (rows place row at.here)))
      (λ (h : (k ≢ place) × (row_at old.rows k ≡ Some r)). rows k r h.1)
      (row_after K old new place row back at k r here)

  one_at : (old : Table S O I) (s : PipeStep) (new : Table S O I) → DoesOne K old s new → AreRowsAt c may old.rows → IsDoneAt c (λ i. may i ≡ true) s × AreRowsAt c may new.rows
  one_at old s new one rows = ⊎_elim
      (λ (o : OutCall K old s new). (done_in s o.row.end (out_at o.row.end s _ _ o.does) (rows o.place o.row o.at.here), rows_then old new o.place o.row o.back o.at rows))
      (λ (i : InCall K old s new). (done_in s i.row.end (in_at i.row.end s _ _ i.does) (rows i.place i.row i.at.here), rows_then old new i.place i.row i.back i.at rows))
      one

  all_at : (steps : List PipeStep) (old new : Table S O I) → DoesAll K old steps new → AreRowsAt c may old.rows → AllByRecursion (IsDoneAt c (λ i. may i ≡ true)) steps × AreRowsAt c may new.rows
  all_at [] old new all rows = (tt, subst (λ (t : Table S O I). AreRowsAt c may t.rows) (sym all) rows)
  all_at (s ∷ steps) old new all rows =
      let one = one_at old s all.0 all.1 rows in
      let rest = all_at steps all.0 new all.2 one.1 in
      ((one.0, rest.0), rest.1)

pub steps_are_at_rows : {S O I N : Type 0} (K : Known S O I N) (M T : Type 0) → StepsAreAtRows K M T
steps_are_at_rows K M T c may steps old new all rows =
    let at = all_at K c may steps old new all rows in
    (subst (AllByRecursion (IsDoneAt c (λ i. may i ≡ true))) (sym (steps_back M T steps)) at.0, at.1)

-- ---- open sockets

none_some : {X : Type 0} {x : X} → None ≡ Some x → ⊥
none_some e = Prim.grind arith

closed_goes : (c : Control) (opens : OpenSockets) (o : ℕ) → OpensGoOn c opens (with_value o None opens)
closed_goes c opens o i k lt e = by (i == o) refl
  where
    by : (b : Bool) → (i == o) ≡ b → opens i ≡ Some k
    by true h = absurd (none_some (subst (λ (b : Bool). cond b None (opens i) ≡ Some k) h e))
    by false h = subst (λ (b : Bool). cond b None (opens i) ≡ Some k) h e

made_goes : (c : Control) (opens : OpenSockets) (o k : ℕ) → next_object c ≤ o → OpensGoOn c opens (with_value o (Some k) opens)
made_goes c opens o k new i j lt e = by (i == o) refl
  where
    by : (b : Bool) → (i == o) ≡ b → opens i ≡ Some j
    by true h = absurd (no (eqb-true i o h))
      where
        no : i ≡ o → ⊥
        no same = omega (arith, same, new, lt)
    by false h = subst (λ (b : Bool). cond b (Some k) (opens i) ≡ Some j) h e

pub opens_change : OpensChange
opens_change = record { same = λ c opens o k lt e. e; closed = closed_goes; made = made_goes }

-- A call on messages leaves the ends of an owner sound.
use Rattle.std.proofs.Common.{◌≡◌, ◌≢◌, ◌||◌, ⊎_elim, ℕ, zero, suc, Bool, true, false, List, [], ◌∷◌, length-set, set, Some, refl, sym, ap, ◌∙◌, subst, true≢false}
use Rattle.spec_pattern.specs.PipeStep.{PipeStep, Commit, FullLook, RoomLook, Take, EmptyLook, DelimiterLook, WaitingLook, Seal, read_through}
use Rattle.spec_pattern.specs.Half.{Writing, Reading}
use Rattle.zq_base.specs.Ends.{PipeId}
use Rattle.msg_pipe.specs.Known.{Known, IsThere, KeepsButIn}
use Rattle.end_table.specs.declared.row.EndRow.{EndRow}
use Rattle.end_table.specs.Rows.{Rows, Table, row_at}
use Rattle.end_table.specs.Runs.{OutDoes, InDoes, CallsAt, OutCall, InCall, DoesOne, DoesAll, is_seal, seals}
use Rattle.end_table.specs.declared.table.Place.{Place}
use Rattle.end_table.specs.Places.{place_at}
use Rattle.end_table.specs.Sound.{WritesSo, StandsSo, IsSound}
use Rattle.end_table.proofs.PlaceLemmas.{row_there, row_else}
use Rattle.end_table.proofs.SoundLemmas.{one_some, Carries, updated, others_written}
use Rattle.end_table.proofs.HalfLemmas.{within}
use Rattle.end_table.proofs.EndsLemmas.{of_row}
use Rattle.end_table.specs.declared.table.EndTable.{EndTable}
use Rattle.end_table.specs.Others.{KeepsPlaces, Leaves, LeavesBySteps}
use Rattle.end_table.proofs.OthersLemmas.{places_stay, leaves_on, leaves_pipes, leaves_out, leaves_in}

-- a place that stays
pub same_place : {N I : Type 0} (ps : List (Place N I)) (k : ℕ) (p : Place N I) → place_at ps k ≡ Some p → set ps k p ≡ ps
same_place [] k p at = refl
same_place (x ∷ xs) zero p at = ap (λ (y : Place _ _). y ∷ xs) (sym (one_some x p at))
same_place (x ∷ xs) (suc k) p at = ap (λ (l : List (Place _ _)). x ∷ l) (same_place xs k p at)

first_not : (a b : Bool) → (a || b) ≡ false → a ≡ false
first_not true b h = h
first_not false b h = refl

later_not : (a b : Bool) → (a || b) ≡ false → b ≡ false
later_not true b h = absurd (true≢false h)
later_not false b h = h

-- a step of a writing half that is no delimiter leaves whether there is one
seal_kept : (p : PipeId) (step : PipeStep) (v w : Writing) → OutDoes p step v w → is_seal step ≡ false → w.sealed ≡ v.sealed
seal_kept p (Commit q m) v w does none = does.1.sealed
seal_kept p (FullLook q) v w does none = does.1.sealed
seal_kept p (RoomLook q) v w does none = does.1.sealed
seal_kept p (Seal q) v w does none = absurd (true≢false none)
seal_kept p (Take q m) v w does none = absurd does
seal_kept p (EmptyLook q) v w does none = absurd does
seal_kept p (DelimiterLook q) v w does none = absurd does
seal_kept p (WaitingLook q) v w does none = absurd does

-- a step of a reading half that met the delimiter meets it
end_kept : (p : PipeId) (step : PipeStep) (v w : Reading) → InDoes p step v w → v.ended ≡ true → w.ended ≡ true
end_kept p (Take q m) v w does met = absurd (true≢false (sym met ∙ does.1.before_the_end))
end_kept p (EmptyLook q) v w does met = absurd (true≢false (sym met ∙ does.1.before_the_end))
end_kept p (DelimiterLook q) v w does met = does.1.ended
end_kept p (WaitingLook q) v w does met = absurd (true≢false (sym met ∙ does.1.before_the_end))
end_kept p (Commit q m) v w does met = absurd does
end_kept p (FullLook q) v w does met = absurd does
end_kept p (RoomLook q) v w does met = absurd does
end_kept p (Seal q) v w does met = absurd does

module _ {S O I N : Type 0} (K : Known S O I N) where
  -- a call on the reading half of one end leaves the others
  others_read : (pipes pipes' : S) (rows : Rows O I) (places : List (Place N I)) (k : ℕ) (p : Place N I) (i i' : I)
      → IsSound K pipes rows places → place_at places k ≡ Some p → p.held ≡ true → K.in_name i ≡ p.read → KeepsButIn K i i' pipes pipes'
      → (j : ℕ) (r : Place N I) → j ≢ k → place_at places j ≡ Some r → Carries K pipes pipes' r
  others_read pipes pipes' rows places k p i i' sound there held name keeps j r ne at = record {
    there_out = λ h w t. keeps.there r.written t;
    there_in = λ h t. keeps.there r.read t;
    outs = λ h w x e t. keeps.outs x (subst (IsThere K pipes) (sym e) t);
    ins = λ h x e t. keeps.ins x (subst (IsThere K pipes) (sym e) t) (λ ex same. (sound.apart j k r p ne at there h held).ins ex (sym e ∙ same ∙ name));
  }

  -- the row of one end came back, and stands so at its place
  came_back : (old new : Table S O I) (places : List (Place N I)) (k : ℕ) (row back : EndRow O I) (p : Place N I) → IsSound K old.pipes old.rows places → place_at places k ≡ Some p → p.held ≡ true → p.writes ≡ true
      → CallsAt K old new k row back → WritesSo K new.pipes back p
      → ((j : ℕ) (r : Place N I) → j ≢ k → place_at places j ≡ Some r → Carries K old.pipes new.pipes r)
      → IsSound K new.pipes new.rows places
  came_back old new places k row back p sound there held writes at stands others =
      subst (λ (l : Rows O I). IsSound K new.pipes l places) (sym at.rows_are)
      (subst (λ (l : List (Place N I)). IsSound K new.pipes (set old.rows k (Some at.boxed)) l) (same_place places k p there)
      (updated K old.pipes new.pipes old.rows (set old.rows k (Some at.boxed)) places k p p sound there
      (record { end_is = refl; written_is = refl; read_is = refl; held = λ h. h; writes = λ h. h })
      (length-set old.rows k (Some at.boxed))
      (again p.held p.writes held writes)
      (λ j ne. row_else old.rows k j (Some at.boxed) ne)
      others))
    where
      again : (h w : Bool) → h ≡ true → w ≡ true → StandsSo K new.pipes (row_at (set old.rows k (Some at.boxed)) k) p h w
      again true true eh ew = (back, row_there old.rows k (Some at.boxed) (within K old.pipes old.rows places k p sound there held) ∙ ap Some at.back_is, stands)
      again true false eh ew = absurd (true≢false (sym ew))
      again false w eh ew = absurd (true≢false (sym eh))

  out_sound : (old new : Table S O I) (places : List (Place N I)) (step : PipeStep) → OutCall K old step new → is_seal step ≡ false → IsSound K old.pipes old.rows places → IsSound K new.pipes new.rows places
  out_sound old new places step call none sound =
      let r = of_row K old.pipes old.rows places sound call.place call.row call.at.here in
      let s = r.stands in
      came_back old new places call.place call.row call.back r.place sound r.at r.held r.writes call.at
      (record {
        end_is = call.at.end_is ∙ s.end_is;
        name_is = call.keeps.name_is ∙ s.name_is;
        there = call.keeps.there r.place.written s.there;
        unsealed = λ h. seal_kept call.row.end step (K.writing old.pipes call.row.out) (K.writing new.pipes call.back.out) call.does none ∙ s.unsealed h;
        writable_is = call.at.writable_is ∙ s.writable_is;
        reads = record {
          name_is = ap K.in_name call.input_is ∙ s.reads.name_is;
          there = call.keeps.there r.place.read s.reads.there;
          met = λ m.
              ap (λ (i : I). (K.reading new.pipes i).ended) call.input_is
              ∙ ap (λ (x : Reading). x.ended) (call.keeps.ins call.row.input (subst (IsThere K old.pipes) (sym s.reads.name_is) s.reads.there)) ∙ s.reads.met m;
        };
      })
      (others_written K old.pipes new.pipes old.rows places call.place r.place call.row.out call.back.out sound r.at r.held r.writes s.name_is call.keeps)

  in_sound : (old new : Table S O I) (places : List (Place N I)) (step : PipeStep) → InCall K old step new → IsSound K old.pipes old.rows places → IsSound K new.pipes new.rows places
  in_sound old new places step call sound =
      let r = of_row K old.pipes old.rows places sound call.place call.row call.at.here in
      let s = r.stands in
      came_back old new places call.place call.row call.back r.place sound r.at r.held r.writes call.at
      (record {
        end_is = call.at.end_is ∙ s.end_is;
        name_is = ap K.out_name call.out_is ∙ s.name_is;
        there = call.keeps.there r.place.written s.there;
        unsealed = λ h.
            ap (λ (o : O). (K.writing new.pipes o).sealed) call.out_is
            ∙ ap (λ (x : Writing). x.sealed) (call.keeps.outs call.row.out (subst (IsThere K old.pipes) (sym s.name_is) s.there)) ∙ s.unsealed h;
        writable_is = call.at.writable_is ∙ s.writable_is;
        reads = record {
          name_is = call.keeps.name_is ∙ s.reads.name_is;
          there = call.keeps.there r.place.read s.reads.there;
          met = λ m. end_kept (read_through call.row.end) step (K.reading old.pipes call.row.input) (K.reading new.pipes call.back.input) call.does (s.reads.met m);
        };
      })
      (others_read old.pipes new.pipes old.rows places call.place r.place call.row.input call.back.input sound r.at r.held s.reads.name_is call.keeps)

  pub calls_sound : (steps : List PipeStep) (old new : Table S O I) (places : List (Place N I)) → DoesAll K old steps new → seals steps ≡ false
      → IsSound K old.pipes old.rows places → IsSound K new.pipes new.rows places
  calls_sound [] old new places does none sound = subst (λ (t : Table S O I). IsSound K t.pipes t.rows places) (sym does) sound
  calls_sound (step ∷ steps) old new places does none sound =
      calls_sound steps does.0 new places does.2 (later_not (is_seal step) (seals steps) none)
      (⊎_elim
      (λ (out : OutCall K old step does.0). out_sound old does.0 places step out (first_not (is_seal step) (seals steps) none) sound)
      (λ (input : InCall K old step does.0). in_sound old does.0 places step input sound)
      does.1)

  -- what one of them leaves to other owners
  one_leaves : (old new : Table S O I) (from : EndTable N O I) (step : PipeStep) → DoesOne K old step new → IsSound K old.pipes old.rows from.places.items → Leaves K old.pipes from new.pipes from
  one_leaves old new from step does sound = ⊎_elim out input does
    where
      stay : KeepsPlaces from.places.items from.places.items
      stay = places_stay from.places.items from.places.items refl

      out : OutCall K old step new → Leaves K old.pipes from new.pipes from
      out call =
          let r = of_row K old.pipes old.rows from.places.items sound call.place call.row call.at.here in
          leaves_out K old.pipes new.pipes from from call.place r.place r.at r.held stay call.row.out call.back.out r.writes r.stands.name_is call.keeps refl

      input : InCall K old step new → Leaves K old.pipes from new.pipes from
      input call =
          let r = of_row K old.pipes old.rows from.places.items sound call.place call.row call.at.here in
          leaves_in K old.pipes new.pipes from from call.place r.place r.at r.held stay call.row.input call.back.input r.stands.reads.name_is call.keeps refl

  pub calls_leave : LeavesBySteps K
  calls_leave [] old new from to does none sound places settled =
      subst (λ (t : Table S O I). Leaves K old.pipes from t.pipes to) (sym does) (leaves_pipes K old.pipes from to (places_stay from.places.items to.places.items places) settled)
  calls_leave (step ∷ steps) old new from to does none sound places settled =
      leaves_on K old.pipes does.0.pipes new.pipes from from to
      (one_leaves old does.0 from step does.1 sound)
      (calls_leave steps does.0 new from to does.2 (later_not (is_seal step) (seals steps) none)
      (calls_sound (step ∷ []) old does.0 from.places.items (does.0, does.1, refl) (one_not (is_seal step) (first_not (is_seal step) (seals steps) none)) sound)
      places settled)
    where
      one_not : (b : Bool) → b ≡ false → (b || false) ≡ false
      one_not true e = absurd (true≢false e)
      one_not false e = refl

-- A look at the front of the pipe that an end reads leaves the ends sound, and what it finds is known at its place.
use Rattle.std.proofs.Common.{◌≡◌, ◌≢◌, ⊎_elim, not, ℕ, Bool, true, false, List, [], ◌∷◌, set, Some, refl, sym, ap, ◌∙◌, subst, true≢false}
use Rattle.std.proofs.lemmas.Bool.{cases_eq}
use Rattle.zq_base.specs.Ends.{PipeId, other_end}
use Rattle.spec_pattern.specs.PipeStep.{DelimiterLook, read_through}
use Rattle.msg_pipe.specs.Known.{Known}
use Rattle.msg_pipe.specs.Told.{front_step}
use Rattle.msg_pipe.specs.declared.pipes.Front.{Front}
use Rattle.msg_pipe.specs.declared.pipes.Front.TheVariants.{Message, Empty, Delimiter}
use Rattle.end_table.specs.declared.row.EndRow.{EndRow}
use Rattle.end_table.specs.Rows.{Rows, Table, table, row_at}
use Rattle.end_table.specs.Runs.{OutCall, InCall, DoesAll, seals}
use Rattle.end_table.specs.declared.table.Place.{Place}
use Rattle.end_table.specs.Places.{place_at}
use Rattle.end_table.specs.Sound.{WritesSo, StandsSo, IsSound}
use Rattle.end_table.specs.Looking.{met_after}
use Rattle.end_table.proofs.PlaceLemmas.{row_there}
use Rattle.end_table.proofs.SoundLemmas.{one_some, all_carried, updated}
use Rattle.end_table.proofs.HalfLemmas.{within}
use Rattle.end_table.proofs.EndsLemmas.{of_row}
use Rattle.end_table.proofs.CallLemmas.{same_place, calls_sound}

-- the other end's other end is the end
back_again : (e : PipeId) → other_end (other_end e) ≡ e
back_again e = ap (λ (b : Bool). record { pair = e.pair; a = b }) (by e.a)
  where
    by : (b : Bool) → not (not b) ≡ b
    by true = refl
    by false = refl

one_end : (p q : PipeId) → read_through p ≡ read_through q → p ≡ q
one_end p q e = sym (back_again p) ∙ ap other_end e ∙ back_again q

-- a look at the front writes no delimiter
pub front_unsealed : (p : PipeId) (found : Front) → seals (front_step p found ∷ []) ≡ false
front_unsealed p Message = refl
front_unsealed p Empty = refl
front_unsealed p Delimiter = refl

module _ {S O I N : Type 0} (K : Known S O I N) where
  -- the row of an end whose writing half is there
  pub row_of : (pipes : S) (rows : Rows O I) (places : List (Place N I)) (k : ℕ) (p : Place N I) → IsSound K pipes rows places → place_at places k ≡ Some p → p.held ≡ true → p.writes ≡ true
      → (row : EndRow O I) × (row_at rows k ≡ Some row) × WritesSo K pipes row p
  row_of pipes rows places k p sound there held writes = by p.held p.writes held writes (sound.stands k p there)
    where
      by : (h w : Bool) → h ≡ true → w ≡ true → StandsSo K pipes (row_at rows k) p h w → (row : EndRow O I) × (row_at rows k ≡ Some row) × WritesSo K pipes row p
      by true true eh ew s = s
      by true false eh ew s = absurd (true≢false (sym ew))
      by false w eh ew s = absurd (true≢false (sym eh))

  module _ (pipes pipes' : S) (rows rows' : Rows O I) (places : List (Place N I)) (k : ℕ) (p : Place N I) (sound : IsSound K pipes rows places) (there : place_at places k ≡ Some p) (held : p.held ≡ true) (writes : p.writes ≡ true) where
    -- a look that found the delimiter was that of the end
    met_there : DoesAll K (table pipes rows) (DelimiterLook (read_through p.end) ∷ []) (table pipes' rows') → (row : EndRow O I) × (row_at rows' k ≡ Some row) × ((K.reading pipes' row.input).ended ≡ true)
    met_there does = ⊎_elim (λ (out : OutCall K (table pipes rows) (DelimiterLook (read_through p.end)) does.0). absurd out.does) found does.1
      where
        found : InCall K (table pipes rows) (DelimiterLook (read_through p.end)) does.0 → (row : EndRow O I) × (row_at rows' k ≡ Some row) × ((K.reading pipes' row.input).ended ≡ true)
        found call =
            let r = of_row K pipes rows places sound call.place call.row call.at.here in
            let mine : r.place.end ≡ p.end = sym (one_end p.end call.row.end call.does.0 ∙ r.stands.end_is) in
            let same : call.place ≡ k = ⊎_elim (λ (e : call.place ≡ k). e) (λ (other : call.place ≢ k). absurd ((sound.apart call.place k r.place p other r.at there r.held held).ends mine)) (cases_eq call.place k) in
            let back : row_at does.0.rows call.place ≡ Some call.back =
            ap (λ (l : Rows O I). row_at l call.place) call.at.rows_are
            ∙ row_there rows call.place (Some call.at.boxed) (within K pipes rows places call.place r.place sound r.at r.held) ∙ ap Some call.at.back_is in
            (call.back, ap (λ (t : Table S O I). row_at t.rows k) does.2 ∙ ap (row_at does.0.rows) (sym same) ∙ back, ap (λ (t : Table S O I). (K.reading t.pipes call.back.input).ended) does.2 ∙ call.does.1.ended)

    pub look_sound : (found : Front) → DoesAll K (table pipes rows) (front_step (read_through p.end) found ∷ []) (table pipes' rows')
        → IsSound K pipes' rows' (set places k (record p { met = met_after found p.met }))
    look_sound Message does = subst (IsSound K pipes' rows') (sym (same_place places k p there)) (calls_sound K (front_step (read_through p.end) Message ∷ []) (table pipes rows) (table pipes' rows') places does refl sound)
    look_sound Empty does = subst (IsSound K pipes' rows') (sym (same_place places k p there)) (calls_sound K (front_step (read_through p.end) Empty ∷ []) (table pipes rows) (table pipes' rows') places does refl sound)
    look_sound Delimiter does =
        let still = calls_sound K (front_step (read_through p.end) Delimiter ∷ []) (table pipes rows) (table pipes' rows') places does refl sound in
        let row = row_of pipes' rows' places k p still there held writes in
        let met = met_there does in
        let ended : (K.reading pipes' row.0.input).ended ≡ true = ap (λ (r : EndRow O I). (K.reading pipes' r.input).ended) (one_some row.0 met.0 (sym row.1 ∙ met.1)) ∙ met.2 in
        updated K pipes' pipes' rows' rows' places k p (record p { met = true }) still there
        (record { end_is = refl; written_is = refl; read_is = refl; held = λ h. h; writes = λ h. h })
        refl
        (again p.held p.writes held writes row.0 row.1 row.2 ended)
        (λ j ne. refl)
        (λ j r ne at. all_carried K pipes' r)
      where
        again : (h w : Bool) → h ≡ true → w ≡ true → (row : EndRow O I) → row_at rows' k ≡ Some row → WritesSo K pipes' row p → (K.reading pipes' row.input).ended ≡ true → StandsSo K pipes' (row_at rows' k) (record p { met = true }) h w
        again true true eh ew row here s ended = (
          row,
          here,
          record {
            end_is = s.end_is;
            name_is = s.name_is;
            there = s.there;
            unsealed = s.unsealed;
            writable_is = s.writable_is;
            reads = record { name_is = s.reads.name_is; there = s.reads.there; met = λ m. ended };
          },
        )
        again true false eh ew row here s ended = absurd (true≢false (sym ew))
        again false w eh ew row here s ended = absurd (true≢false (sym eh))

-- A put, a look for room and a take at the end of a place, as the code makes them.
use Rattle.std.proofs.Common.{◌≡◌, ℕ, Bool, true, set, [], ◌∷◌, Option, Some, refl, sym, ap, ◌∙◌, subst, false}
use Rattle.std.specs.Prelude.{Box, slice_index_or}
use Rattle.std.specs.declared.alloc.Global.{Global}
use Rattle.std.specs.Box.{with_value}
use Rattle.zq_base.specs.Message.{Frames}
use Rattle.zq_base.specs.Ends.{PipeId}
use Rattle.spec_pattern.specs.Half.{Writing, Reading}
use Rattle.spec_pattern.specs.PipeStep.{PipeStep, read_through}
use Rattle.msg_pipe.specs.declared.pipes.PutIn.{PutIn}
use Rattle.msg_pipe.specs.declared.pipes.PutIn.TheVariants as put
use Rattle.msg_pipe.specs.declared.pipes.Taken.{Taken}
use Rattle.msg_pipe.specs.declared.pipes.Taken.TheVariants.{Item, Empty, Delimiter}
use Rattle.msg_pipe.specs.declared.pipes.Front.{Front}
use Rattle.msg_pipe.specs.declared.pipes.Front.TheVariants as front
use Rattle.msg_pipe.specs.Told.{Puts, SeesRoom, Finds, FrontFinds, front_of, put_step, room_step, take_step, front_step}
use Rattle.msg_pipe.specs.Known.{Known, SeesTakes, SeesCommits, KeepsButOut, KeepsButIn}
use Rattle.end_table.specs.declared.row.EndRow.{EndRow}
use Rattle.end_table.specs.Rows.{Rows, unboxed, table, row_at, IsRow, end_of}
use Rattle.end_table.specs.Runs.{OutDoes, InDoes, front_at, OutCall, InCall, seals}
use Rattle.end_table.proofs.RowLemmas.{found_at}

-- the row that the code finds at a place
pub row_here : {O I : Type 0} (rows : Rows O I) (place : ℕ) (x : Option (Box (EndRow O I) Global)) (b : Box (EndRow O I) Global) (r : EndRow O I)
    → x ≡ slice_index_or rows place x → x ≡ Some b → r ≡ b.value → IsRow rows place → row_at rows place ≡ Some r
row_here rows place x b r value is same here = here.1 ∙ sym (found_at rows place x here.0 value here.1) ∙ ap unboxed is ∙ ap Some (sym same)

out_of_put : (p : PipeId) (m : Frames) (answer : PutIn) (v w : Writing) → v.sealed ≡ false → Puts v m answer w → OutDoes p (put_step p m answer) v w
out_of_put p m put.Ok v w unsealed h = (refl, h, unsealed)
out_of_put p m (put.Full back) v w unsealed h = (refl, h.1)

put_sealed : (m : Frames) (answer : PutIn) (v w : Writing) → Puts v m answer w → w.sealed ≡ v.sealed
put_sealed m put.Ok v w h = h.sealed
put_sealed m (put.Full back) v w h = h.1.sealed

out_of_room : (p : PipeId) (found : Bool) (v w : Writing) → v.sealed ≡ false → SeesRoom v found w → OutDoes p (room_step p found) v w
out_of_room p true v w unsealed h = (refl, h, unsealed)
out_of_room p false v w unsealed h = (refl, h)

room_sealed : (found : Bool) (v w : Writing) → SeesRoom v found w → w.sealed ≡ v.sealed
room_sealed true v w h = h.sealed
room_sealed false v w h = h.sealed

-- none writes a delimiter
pub put_unsealing : (p : PipeId) (m : Frames) (answer : PutIn) → seals (put_step p m answer ∷ []) ≡ false
put_unsealing p m put.Ok = refl
put_unsealing p m (put.Full back) = refl

pub room_unsealing : (p : PipeId) (found : Bool) → seals (room_step p found ∷ []) ≡ false
room_unsealing p true = refl
room_unsealing p false = refl

pub take_unsealing : (p : PipeId) (found : Taken) → seals (take_step p found ∷ []) ≡ false
take_unsealing p (Item m) = refl
take_unsealing p Empty = refl
take_unsealing p Delimiter = refl

in_of_take : (p : PipeId) (found : Taken) (v w : Reading) → Finds v found w → InDoes p (take_step p found) v w
in_of_take p (Item m) v w h = (refl, h)
in_of_take p Empty v w h = (refl, h)
in_of_take p Delimiter v w h = (refl, h)

front_taken : (p : PipeId) (found : Taken) → front_at (take_step p found) ≡ front_of found
front_taken p (Item m) = refl
front_taken p Empty = refl
front_taken p Delimiter = refl

in_of_front : (p : PipeId) (found : Front) (v w : Reading) → FrontFinds v found w → InDoes p (front_step p found) v w
in_of_front p front.Message v w h = (refl, h)
in_of_front p front.Empty v w h = (refl, h)
in_of_front p front.Delimiter v w h = (refl, h)

front_looked : (p : PipeId) (found : Front) → front_at (front_step p found) ≡ found
front_looked p front.Message = refl
front_looked p front.Empty = refl
front_looked p front.Delimiter = refl

module _ {S O I N : Type 0} (K : Known S O I N) where
  pub front_done : (pipes pipes' : S) (rows : Rows O I) (place : ℕ) (b : Box (EndRow O I) Global) (r : EndRow O I) (i : I) (found : Front)
      → row_at rows place ≡ Some r
      → FrontFinds (K.reading pipes r.input) found (K.reading pipes' i) → SeesCommits K r.input i found pipes pipes' → KeepsButIn K r.input i pipes pipes'
      → InCall K (table pipes rows) (front_step (read_through (end_of (row_at rows place))) found) (table pipes' (set rows place (Some (with_value b (record r { input = i })))))
  front_done pipes pipes' rows place b r i found here finds sees keeps =
      subst (λ (x : Option (EndRow O I)). InCall K (table pipes rows) (front_step (read_through (end_of x)) found) (table pipes' (set rows place (Some (with_value b (record r { input = i })))))) (sym here)
      (record {
        place = place;
        row = r;
        back = record r { input = i };
        at = record { here = here; boxed = with_value b (record r { input = i }); rows_are = refl; back_is = refl; end_is = refl; writable_is = refl };
        out_is = refl;
        does = in_of_front (read_through r.end) found (K.reading pipes r.input) (K.reading pipes' i) finds;
        exact = subst (λ (f : Front). SeesCommits K r.input i f pipes pipes') (sym (front_looked (read_through r.end) found)) sees;
        keeps = keeps;
      })

  -- a call that was lent a writing half which has not sealed, and seals nothing
  out_done : (pipes pipes' : S) (rows : Rows O I) (place : ℕ) (b : Box (EndRow O I) Global) (r : EndRow O I) (o : O) (step : PipeId → PipeStep)
      → row_at rows place ≡ Some r → (K.writing pipes r.out).sealed ≡ false → (K.writing pipes' o).sealed ≡ (K.writing pipes r.out).sealed
      → OutDoes r.end (step r.end) (K.writing pipes r.out) (K.writing pipes' o) → SeesTakes K r.out o pipes pipes' → KeepsButOut K r.out o pipes pipes'
      → OutCall K (table pipes rows) (step (end_of (row_at rows place))) (table pipes' (set rows place (Some (with_value b (record r { out = o })))))
  out_done pipes pipes' rows place b r o step here unsealed same does sees keeps =
      subst (λ (x : Option (EndRow O I)). OutCall K (table pipes rows) (step (end_of x)) (table pipes' (set rows place (Some (with_value b (record r { out = o })))))) (sym here)
      (record {
        place = place;
        row = r;
        back = record r { out = o };
        at = record { here = here; boxed = with_value b (record r { out = o }); rows_are = refl; back_is = refl; end_is = refl; writable_is = refl };
        input_is = refl;
        unsealed = λ _. same ∙ unsealed;
        does = does;
        exact = λ _. sees;
        keeps = keeps;
      })

  pub put_done : (pipes pipes' : S) (rows : Rows O I) (place : ℕ) (b : Box (EndRow O I) Global) (r : EndRow O I) (o : O) (m : Frames) (answer : PutIn)
      → row_at rows place ≡ Some r → (K.writing pipes r.out).sealed ≡ false
      → Puts (K.writing pipes r.out) m answer (K.writing pipes' o) → SeesTakes K r.out o pipes pipes' → KeepsButOut K r.out o pipes pipes'
      → OutCall K (table pipes rows) (put_step (end_of (row_at rows place)) m answer) (table pipes' (set rows place (Some (with_value b (record r { out = o })))))
  put_done pipes pipes' rows place b r o m answer here unsealed puts =
      out_done pipes pipes' rows place b r o (λ p. put_step p m answer) here unsealed (put_sealed m answer (K.writing pipes r.out) (K.writing pipes' o) puts)
      (out_of_put r.end m answer (K.writing pipes r.out) (K.writing pipes' o) unsealed puts)

  pub room_done : (pipes pipes' : S) (rows : Rows O I) (place : ℕ) (b : Box (EndRow O I) Global) (r : EndRow O I) (o : O) (found : Bool)
      → row_at rows place ≡ Some r → (K.writing pipes r.out).sealed ≡ false
      → SeesRoom (K.writing pipes r.out) found (K.writing pipes' o) → SeesTakes K r.out o pipes pipes' → KeepsButOut K r.out o pipes pipes'
      → OutCall K (table pipes rows) (room_step (end_of (row_at rows place)) found) (table pipes' (set rows place (Some (with_value b (record r { out = o })))))
  room_done pipes pipes' rows place b r o found here unsealed looks =
      out_done pipes pipes' rows place b r o (λ p. room_step p found) here unsealed (room_sealed found (K.writing pipes r.out) (K.writing pipes' o) looks)
      (out_of_room r.end found (K.writing pipes r.out) (K.writing pipes' o) unsealed looks)

  pub take_done : (pipes pipes' : S) (rows : Rows O I) (place : ℕ) (b : Box (EndRow O I) Global) (r : EndRow O I) (i : I) (found : Taken)
      → row_at rows place ≡ Some r
      → Finds (K.reading pipes r.input) found (K.reading pipes' i) → SeesCommits K r.input i (front_of found) pipes pipes' → KeepsButIn K r.input i pipes pipes'
      → InCall K (table pipes rows) (take_step (read_through (end_of (row_at rows place))) found) (table pipes' (set rows place (Some (with_value b (record r { input = i })))))
  take_done pipes pipes' rows place b r i found here finds sees keeps =
      subst (λ (x : Option (EndRow O I)). InCall K (table pipes rows) (take_step (read_through (end_of x)) found) (table pipes' (set rows place (Some (with_value b (record r { input = i })))))) (sym here)
      (record {
        place = place;
        row = r;
        back = record r { input = i };
        at = record { here = here; boxed = with_value b (record r { input = i }); rows_are = refl; back_is = refl; end_is = refl; writable_is = refl };
        out_is = refl;
        does = in_of_take (read_through r.end) found (K.reading pipes r.input) (K.reading pipes' i) finds;
        exact = subst (λ (f : Front). SeesCommits K r.input i f pipes pipes') (sym (front_taken (read_through r.end) found)) sees;
        keeps = keeps;
      })

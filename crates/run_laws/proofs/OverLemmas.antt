-- Which objects are over, and what an update of the rows does to it.
use Rattle.std.specs.Prelude.{◌≡◌, ◌<◌, ◌+◌, ◌&&◌, ℕ, zero, suc, Bool, true, false, List, [], ◌∷◌, ◌++◌, length, slice_index_or, slice_set, refl}
use Rattle.std.proofs.Common.{arith, sym, ap, ◌∙◌}
use Rattle.spec_control.specs.declared.stage.Stage.{Stage}
use Rattle.spec_control.specs.declared.stage.Stage.TheVariants.{Alive, Told, Ending, Finished, Cleared}
use Rattle.spec_control.specs.Stage.{has_ended, is_ending, is_alive, is_told}
use Rattle.spec_control.specs.Row.{Row, nobody, LinkEvent, OwnComes, PlugComes, IsTold, TermComes, AsksOver, RequestComes, ReapComes, AckComes, RootAsked, StopPut, StopComes, AsksForLink, AsksForLinger, link_may, link_after}
use Rattle.spec_control.specs.Control.{Control}
use Rattle.control_laws.proofs.ListLemmas.{never}

-- what a number that no object has stands for, where it has not ended
abbrev pub unborn : Row
unborn = record nobody { stage = Alive }

abbrev pub row_in : List Row → ℕ → Row
row_in rows x = slice_index_or rows x unborn

-- an object is there and has ended
abbrev pub over_in : List Row → ℕ → Bool
over_in rows x = has_ended (row_in rows x).stage

abbrev pub over : Control → ℕ → Bool
over c x = over_in c.rows.objects x

-- ---- a row is written

pub data Wrote (rows : List Row) (i : ℕ) (o : Row) (x : ℕ) : Type 0 where
  here : x ≡ i → row_in (slice_set rows i o) x ≡ o → row_in rows x ≡ slice_index_or rows i nobody → Wrote rows i o x
  as_before : row_in (slice_set rows i o) x ≡ row_in rows x → Wrote rows i o x

pub wrote : (rows : List Row) (i : ℕ) (o : Row) (x : ℕ) → Wrote rows i o x
wrote [] i o x = as_before refl
wrote (r ∷ rows) zero o zero = here refl refl refl
wrote (r ∷ rows) zero o (suc x) = as_before refl
wrote (r ∷ rows) (suc i) o zero = as_before refl
wrote (r ∷ rows) (suc i) o (suc x) = more (wrote rows i o x)
  where
    more : Wrote rows i o x → Wrote (r ∷ rows) (suc i) o (suc x)
    more (here e f g) = here (ap suc e) f g
    more (as_before f) = as_before f

-- who is ending is there
pub wrote_here : (rows : List Row) (i : ℕ) (o : Row) → is_ending (slice_index_or rows i nobody).stage ≡ true → row_in (slice_set rows i o) i ≡ o
wrote_here [] i o h = absurd (never h)
wrote_here (r ∷ rows) zero o h = refl
wrote_here (r ∷ rows) (suc i) o h = wrote_here rows i o h

-- of an object that is over, both defaults tell the row
pub same_row : (rows : List Row) (x : ℕ) → over_in rows x ≡ true → row_in rows x ≡ slice_index_or rows x nobody
same_row [] x h = absurd (never h)
same_row (r ∷ rows) zero h = refl
same_row (r ∷ rows) (suc x) h = same_row rows x h

pub not_over : (rows : List Row) (x : ℕ) → has_ended (slice_index_or rows x nobody).stage ≡ false → over_in rows x ≡ false
not_over [] x h = refl
not_over (r ∷ rows) zero h = h
not_over (r ∷ rows) (suc x) h = not_over rows x h

pub is_over : (rows : List Row) (x : ℕ) → x < length rows → has_ended (slice_index_or rows x nobody).stage ≡ true → over_in rows x ≡ true
is_over [] x lt h = absurd (below lt)
  where
    below : {k : ℕ} → k < 0 → ⊥
    below g = omega arith
is_over (r ∷ rows) zero lt h = h
is_over (r ∷ rows) (suc x) lt h = is_over rows x (omega (arith, lt)) h

pub ended_is : (rows : List Row) (x : ℕ) → over_in rows x ≡ true → has_ended (slice_index_or rows x nobody).stage ≡ true
ended_is rows x h = ap (λ (o : Row). has_ended o.stage) (sym (same_row rows x h)) ∙ h

-- an object that is made lives
pub pushed_over : (rows : List Row) (o : Row) (x : ℕ) → has_ended o.stage ≡ false → over_in (rows ++ o ∷ []) x ≡ true → (over_in rows x ≡ true) × (row_in (rows ++ o ∷ []) x ≡ row_in rows x)
pushed_over [] o zero lives h = absurd (never (sym lives ∙ h))
pushed_over [] o (suc x) lives h = absurd (never h)
pushed_over (r ∷ rows) o zero lives h = (h, refl)
pushed_over (r ∷ rows) o (suc x) lives h = pushed_over rows o x lives h

pub pushed_stays : (rows : List Row) (o : Row) (x : ℕ) → over_in rows x ≡ true → over_in (rows ++ o ∷ []) x ≡ true
pushed_stays [] o x h = absurd (never h)
pushed_stays (r ∷ rows) o zero h = h
pushed_stays (r ∷ rows) o (suc x) h = pushed_stays rows o x h

-- ---- what happens between an object and its owner

-- nothing of it ends an object, but that its acknowledgement is taken once it has ended
pub ends_none : (e : LinkEvent) (o : Row) → (e ≡ AckComes → has_ended o.stage ≡ true) → has_ended (link_after e o).stage ≡ true → has_ended o.stage ≡ true
ends_none OwnComes o ack h = h
ends_none PlugComes o ack h = h
ends_none IsTold o ack h = absurd (never h)
ends_none TermComes o ack h = absurd (never h)
ends_none AsksOver o ack h = h
ends_none RequestComes o ack h = h
ends_none ReapComes o ack h = absurd (never h)
ends_none AckComes o ack h = ack refl
ends_none RootAsked o ack h = absurd (never h)
ends_none StopPut o ack h = h
ends_none StopComes o ack h = h
ends_none AsksForLink o ack h = h
ends_none AsksForLinger o ack h = h

pub same_owner : (e : LinkEvent) (o : Row) → (link_after e o).owner ≡ o.owner
same_owner OwnComes o = refl
same_owner PlugComes o = refl
same_owner IsTold o = refl
same_owner TermComes o = refl
same_owner AsksOver o = refl
same_owner RequestComes o = refl
same_owner ReapComes o = refl
same_owner AckComes o = refl
same_owner RootAsked o = refl
same_owner StopPut o = refl
same_owner StopComes o = refl
same_owner AsksForLink o = refl
same_owner AsksForLinger o = refl

left_of : (a b : Bool) → (a && b) ≡ true → a ≡ true
left_of true b h = refl
left_of false b h = absurd (never h)

ended_no_alive : (s : Stage) → has_ended s ≡ true → is_alive s ≡ true → ⊥
ended_no_alive Alive h k = never h
ended_no_alive Told h k = never h
ended_no_alive Ending h k = never h
ended_no_alive Finished h k = never k
ended_no_alive Cleared h k = never k

ended_no_told : (s : Stage) → has_ended s ≡ true → is_told s ≡ true → ⊥
ended_no_told Alive h k = never h
ended_no_told Told h k = never h
ended_no_told Ending h k = never h
ended_no_told Finished h k = never k
ended_no_told Cleared h k = never k

-- what may happen leaves an object that has ended so
pub stays_ended : (e : LinkEvent) (o : Row) → link_may e o ≡ true → has_ended o.stage ≡ true → has_ended (link_after e o).stage ≡ true
stays_ended OwnComes o may h = h
stays_ended PlugComes o may h = h
stays_ended IsTold o may h = absurd (ended_no_alive o.stage h (left_of (is_alive o.stage) _ may))
stays_ended TermComes o may h = absurd (ended_no_told o.stage h (left_of (is_told o.stage) _ may))
stays_ended AsksOver o may h = h
stays_ended RequestComes o may h = h
stays_ended ReapComes o may h = absurd (ended_no_alive o.stage h (left_of (is_alive o.stage) _ (right_of _ _ may)))
  where
    right_of : (a b : Bool) → (a && b) ≡ true → b ≡ true
    right_of true b h = h
    right_of false b h = absurd (never h)
stays_ended AckComes o may h = refl
stays_ended RootAsked o may h = absurd (ended_no_alive o.stage h (left_of (is_alive o.stage) _ may))
stays_ended StopPut o may h = h
stays_ended StopComes o may h = h
stays_ended AsksForLink o may h = h
stays_ended AsksForLinger o may h = h

-- ---- which objects there are

pub set_length : (rows : List Row) (i : ℕ) (o : Row) → length (slice_set rows i o) ≡ length rows
set_length [] i o = refl
set_length (r ∷ rows) zero o = refl
set_length (r ∷ rows) (suc i) o = ap suc (set_length rows i o)

pub push_length : (rows : List Row) (o : Row) → length (rows ++ o ∷ []) ≡ length rows + 1
push_length [] o = refl
push_length (r ∷ rows) o = let more = push_length rows o in omega (arith, more)

pub push_row : (rows : List Row) (o : Row) (x : ℕ) → x < length rows → row_in (rows ++ o ∷ []) x ≡ row_in rows x
push_row [] o x lt = absurd (below lt)
  where
    below : {k : ℕ} → k < 0 → ⊥
    below g = omega arith
push_row (r ∷ rows) o zero lt = refl
push_row (r ∷ rows) o (suc x) lt = push_row rows o x (omega (arith, lt))

pub over_there : (rows : List Row) (x : ℕ) → over_in rows x ≡ true → x < length rows
over_there [] x h = absurd (never h)
over_there (r ∷ rows) zero h = omega arith
over_there (r ∷ rows) (suc x) h = let more = over_there rows x h in omega (arith, more)

pub living_there : (rows : List Row) (x : ℕ) → has_ended (slice_index_or rows x nobody).stage ≡ false → x < length rows
living_there [] x h = absurd (never (sym h))
living_there (r ∷ rows) zero h = omega arith
living_there (r ∷ rows) (suc x) h = let more = living_there rows x h in omega (arith, more)

pub there_row : (rows : List Row) (x : ℕ) → x < length rows → row_in rows x ≡ slice_index_or rows x nobody
there_row [] x lt = absurd (below lt)
  where
    below : {k : ℕ} → k < 0 → ⊥
    below g = omega arith
there_row (r ∷ rows) zero lt = refl
there_row (r ∷ rows) (suc x) lt = there_row rows x (omega (arith, lt))

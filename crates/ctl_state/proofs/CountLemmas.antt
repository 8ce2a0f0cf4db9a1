-- How the counts of an object's binds and ends go with its pairs.
use Rattle.std.specs.Prelude.{◌≡◌, ◌≢◌, ◌<◌, ◌+◌, ◌==◌, ℕ, Bool, true, false, not, cond, List, length, sum_by, slice_index_or, slice_set, refl}
use Rattle.std.proofs.Common.{arith, ap}
use Rattle.std.proofs.lemmas.Bool.{false≢true}
use Rattle.std.proofs.lemmas.List.Sums.{sum_by-set}
use Rattle.spec_control.specs.declared.end.EndState.{EndState}
use Rattle.spec_control.specs.declared.end.EndState.TheVariants.{Active, DelimiterGot, WaitDelimiter, AckSent, AskedOnce, AskedTwice, Gone}
use Rattle.spec_control.specs.declared.end.EndEvent.{EndEvent}
use Rattle.spec_control.specs.declared.end.EndEvent.TheVariants.{Asked, TermCame, DelimiterSeen, AckCame}
use Rattle.spec_control.specs.EndLife.{cell, state_after, comes}
use Rattle.spec_control.specs.Place.{Place, At as IsAt, is_here}
use Rattle.spec_control.specs.Rows.{PairRow, no_pair, with_places, end_place, end_owner, of_ends, bind_waits, end_waits}
use Rattle.ctl_state.specs.declared.pair.Spot.{Spot}
use Rattle.ctl_state.specs.declared.pair.Spot.TheVariants.{Unmade, Away, At, Over}
use Rattle.ctl_state.specs.Pairs.{place_at, spot_comes, spot_after}

-- an end that stays where it is counts as before
pub here_stays : (event : EndEvent) (state : EndState) → comes event state ≡ true → event ≢ AckCame → is_here (IsAt (state_after (cell event state) state)) ≡ is_here (IsAt state)
here_stays (Asked reason delay) Active h n = refl
here_stays (Asked reason delay) DelimiterGot h n = refl
here_stays (Asked reason true) WaitDelimiter h n = refl
here_stays (Asked reason false) WaitDelimiter h n = refl
here_stays (Asked reason delay) AckSent h n = refl
here_stays (Asked reason delay) AskedOnce h n = refl
here_stays (Asked reason delay) AskedTwice h n = refl
here_stays (Asked reason delay) Gone h n = absurd (false≢true h)
here_stays TermCame Active h n = refl
here_stays TermCame DelimiterGot h n = refl
here_stays TermCame WaitDelimiter h n = absurd (false≢true h)
here_stays TermCame AckSent h n = absurd (false≢true h)
here_stays TermCame AskedOnce h n = refl
here_stays TermCame AskedTwice h n = absurd (false≢true h)
here_stays TermCame Gone h n = absurd (false≢true h)
here_stays DelimiterSeen Active h n = refl
here_stays DelimiterSeen DelimiterGot h n = absurd (false≢true h)
here_stays DelimiterSeen WaitDelimiter h n = refl
here_stays DelimiterSeen AckSent h n = absurd (false≢true h)
here_stays DelimiterSeen AskedOnce h n = absurd (false≢true h)
here_stays DelimiterSeen AskedTwice h n = absurd (false≢true h)
here_stays DelimiterSeen Gone h n = absurd (false≢true h)
here_stays AckCame state h n = absurd (n refl)

-- an end that is acknowledged was there, and is gone
goes_at_ack : (state : EndState) → comes AckCame state ≡ true → (is_here (IsAt state) ≡ true) × (is_here (IsAt (state_after (cell AckCame state) state)) ≡ false)
goes_at_ack Active h = absurd (false≢true h)
goes_at_ack DelimiterGot h = absurd (false≢true h)
goes_at_ack WaitDelimiter h = absurd (false≢true h)
goes_at_ack AckSent h = (refl, refl)
goes_at_ack AskedOnce h = (refl, refl)
goes_at_ack AskedTwice h = (refl, refl)
goes_at_ack Gone h = absurd (false≢true h)

pub binds_stay : (event : EndEvent) (s : Spot) → spot_comes event s ≡ true → bind_waits (place_at (spot_after event s)) ≡ bind_waits (place_at s)
binds_stay event Unmade h = refl
binds_stay event Away h = refl
binds_stay event (At life) h = refl
binds_stay event Over h = refl

pub ends_stay : (event : EndEvent) (s : Spot) → spot_comes event s ≡ true → event ≢ AckCame → end_waits (place_at (spot_after event s)) ≡ end_waits (place_at s)
ends_stay event Unmade h n = refl
ends_stay event Away h n = refl
ends_stay event (At life) h n = ap {B = ℕ} (λ (b : Bool). cond b 1 0) (here_stays event life.state h n)
ends_stay event Over h n = refl

pub end_was : (s : Spot) → spot_comes AckCame s ≡ true → end_waits (place_at s) ≡ 1
end_was Unmade h = absurd (false≢true h)
end_was Away h = absurd (false≢true h)
end_was (At life) h = ap {B = ℕ} (λ (b : Bool). cond b 1 0) (goes_at_ack life.state h).0
end_was Over h = absurd (false≢true h)

pub end_went : (s : Spot) → spot_comes AckCame s ≡ true → end_waits (place_at (spot_after AckCame s)) ≡ 0
end_went Unmade h = absurd (false≢true h)
end_went Away h = absurd (false≢true h)
end_went (At life) h = ap {B = ℕ} (λ (b : Bool). cond b 1 0) (goes_at_ack life.state h).1
end_went Over h = absurd (false≢true h)

-- one end of a pair is elsewhere
one_end : (f : Place → ℕ) (i : ℕ) (a : Bool) (m : Place) (p : PairRow) →
    of_ends f i (with_places a m (end_place p (not a)) p) + cond (end_owner p a == i) (f (end_place p a)) 0 ≡ of_ends f i p + cond (end_owner p a == i) (f m) 0
one_end f i true m p = omega arith
one_end f i false m p = omega arith

pub sum_end : (f : Place → ℕ) (i : ℕ) (a : Bool) (m : Place) (rows : List PairRow) (k : ℕ) (p : PairRow) → k < length rows → slice_index_or rows k no_pair ≡ p →
    sum_by (of_ends f i) (slice_set rows k (with_places a m (end_place p (not a)) p)) + cond (end_owner p a == i) (f (end_place p a)) 0
    ≡ sum_by (of_ends f i) rows + cond (end_owner p a == i) (f m) 0
sum_end f i a m rows k p within is =
    let one = one_end f i a m p in
    let sums = sum_by-set (of_ends f i) rows k (with_places a m (end_place p (not a)) p) no_pair within in
    let read = ap (of_ends f i) is in
    omega (arith, one, sums, read)

-- both ends are elsewhere that counted for nothing
both_ends : (f : Place → ℕ) (i : ℕ) (a : Bool) (m t : Place) (p : PairRow) → f (end_place p a) ≡ 0 → f (end_place p (not a)) ≡ 0 →
    of_ends f i (with_places a m t p) ≡ of_ends f i p + (cond (end_owner p a == i) (f m) 0 + cond (end_owner p (not a) == i) (f t) 0)
both_ends f i true m t p mine theirs =
    let x = none (p.a_owner == i) (f p.a) mine in
    let y = none (p.b_owner == i) (f p.b) theirs in
    omega (arith, x, y)
  where
    none : (b : Bool) (n : ℕ) → n ≡ 0 → ◌≡◌ {A = ℕ} (cond b n 0) 0
    none true n h = h
    none false n h = refl
both_ends f i false m t p mine theirs =
    let x = none (p.b_owner == i) (f p.b) mine in
    let y = none (p.a_owner == i) (f p.a) theirs in
    omega (arith, x, y)
  where
    none : (b : Bool) (n : ℕ) → n ≡ 0 → ◌≡◌ {A = ℕ} (cond b n 0) 0
    none true n h = h
    none false n h = refl

pub sum_both : (f : Place → ℕ) (i : ℕ) (a : Bool) (m t : Place) (rows : List PairRow) (k : ℕ) (p : PairRow) → k < length rows → slice_index_or rows k no_pair ≡ p →
    f (end_place p a) ≡ 0 → f (end_place p (not a)) ≡ 0 →
    sum_by (of_ends f i) (slice_set rows k (with_places a m t p)) ≡ sum_by (of_ends f i) rows + (cond (end_owner p a == i) (f m) 0 + cond (end_owner p (not a) == i) (f t) 0)
sum_both f i a m t rows k p within is mine theirs =
    let both = both_ends f i a m t p mine theirs in
    let sums = sum_by-set (of_ends f i) rows k (with_places a m t p) no_pair within in
    let read = ap (of_ends f i) is in
    omega (arith, both, sums, read)

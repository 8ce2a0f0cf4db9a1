-- What a pair's making leaves in the control state: its number drawn, its first end attached, the bind of the other put, and the first end welcomed or asked.
use Rattle.std.specs.Prelude.{◌≡◌, ◌<◌, ◌≤◌, ◌+◌, ◌==◌, ◌∷◌, [], ℕ, Bool, true, false, not, cond, Option, Some, None, length, sum_by, if◌then◌else◌, refl}
use Rattle.std.proofs.Common.{arith, sym, ap, ◌∙◌, subst}
use Rattle.std.proofs.lemmas.List.{length-set, length_push, get_or_push, get_or_append_left, get_or-set_same, get_or-set_other}
use Rattle.std.proofs.lemmas.List.Elements.{All-cons, All-nil}
use Rattle.std.proofs.lemmas.List.Sums.{sum_by-set, sum_by_push}
use Rattle.zq_base.specs.Ends.{other_end}
use Rattle.zq_base.specs.declared.attached.Attached.{Attached}
use Rattle.zq_base.specs.declared.attached.Attached.TheVariants.{Yes, BadId as IsBadId, Second as IsSecond}
use Rattle.zq_base.specs.declared.ids.EndId.{EndId}
use Rattle.spec_control.specs.declared.end.EndCommands.{EndCommands}
use Rattle.spec_control.specs.declared.end.EndCommands.TheVariants.{Nothing, TermAndSeal, Ack, Settle, SettleAndAck}
use Rattle.spec_control.specs.declared.end.EndEvent.{EndEvent}
use Rattle.spec_control.specs.declared.end.EndEvent.TheVariants.{Asked}
use Rattle.spec_control.specs.declared.end.EndState.TheVariants.{Active, AskedOnce}
use Rattle.spec_control.specs.declared.end.Reason.{Reason}
use Rattle.spec_control.specs.declared.end.Reason.TheVariants.{Closed, BadId, Second}
use Rattle.spec_control.specs.declared.letter.Word.{Word}
use Rattle.spec_control.specs.Place.{Place, Unmade, Away, At, is_here}
use Rattle.spec_control.specs.PairPhase.{Opens, Happens, place_after}
use Rattle.spec_control.specs.Stage.{was_asked}
use Rattle.spec_control.specs.Rows.{Rows, PairRow, no_pair, obj, pair, pair_after, end_owner, end_place, of_ends, bind_waits}
use Rattle.spec_control.specs.Control.{Control, ask, commands_in, draws, greet, happens, is_end, met_in, next_pair, open_pair, owner_of, place_of, reason_in, tell_other}
use Rattle.control_laws.proofs.AskLemmas.{end_self, same_end}
use Rattle.control_laws.proofs.HearLemmas.{end_moved}
use Rattle.ctl_state.specs.Stands.{stepped}
use Rattle.ctl_moves.proofs.TurnLemmas.{else_at, now_at, reasons_now, same_attached, same_owner}
use Rattle.ctl_moves.specs.Joined.{IsFresh, Attaches}
use Rattle.ctl_moves.proofs.OpeningLemmas.{opened_owner}

unmet_at : (reason : Option Reason) → (met_in (At Active) reason ≡ false) × (met_in (At AskedOnce) reason ≡ false)
unmet_at None = (refl, refl)
unmet_at (Some reason) = (refl, refl)

active_fresh : (p : Place) → p ≡ At Active → IsFresh p
active_fresh p is = subst IsFresh (sym is) (record { here = refl; writer = refl; unmet = λ r. (unmet_at r).0 })

asked_fresh : (p : Place) → p ≡ At AskedOnce → IsFresh p
asked_fresh p is = subst IsFresh (sym is) (record { here = refl; writer = refl; unmet = λ r. (unmet_at r).1 })

-- how many binds are on their way to an object
abbrev pub binds_to : ℕ → Control → ℕ
binds_to i c = sum_by (of_ends bind_waits i) c.rows.pairs

place_less : (event : EndEvent) (place : Place) → bind_waits (place_after (Happens event) place) ≤ bind_waits place
place_less event Unmade = omega arith
place_less event Away = omega arith
place_less event (At state) = omega arith

where_less : (b : Bool) (m n : ℕ) → m ≤ n → cond b m 0 ≤ cond b n 0
where_less true m n h = h
where_less false m n h = omega arith

-- an event of an end there brings none
row_less : (event : EndEvent) (a : Bool) (p : PairRow) (i : ℕ) → of_ends bind_waits i (pair_after (Happens event) a p) ≤ of_ends bind_waits i p
row_less event true p i = let one = where_less (p.a_owner == i) (bind_waits (place_after (Happens event) p.a)) (bind_waits p.a) (place_less event p.a) in omega (arith, one)
row_less event false p i = let one = where_less (p.b_owner == i) (bind_waits (place_after (Happens event) p.b)) (bind_waits p.b) (place_less event p.b) in omega (arith, one)

told_rows : (commands : EndCommands) (e : EndId) (c : Control) → (tell_other commands e c).rows ≡ c.rows
told_rows Nothing e c = refl
told_rows TermAndSeal e c = refl
told_rows Ack e c = refl
told_rows Settle e c = refl
told_rows SettleAndAck e c = refl

happens_binds : (event : EndEvent) (e : EndId) (c : Control) → e.pair.0 < length c.rows.pairs → (i : ℕ) → binds_to i (happens event e c) ≤ binds_to i c
happens_binds event e c within i =
    let rows = ap (λ (r : Rows). sum_by (of_ends bind_waits i) r.pairs) (told_rows (commands_in event (place_of c e)) e (stepped event e c)) in
    let sums = sum_by-set (of_ends bind_waits i) c.rows.pairs e.pair.0 (pair_after (Happens event) e.a (pair c.rows e.pair.0)) no_pair within in
    let less = row_less event e.a (pair c.rows e.pair.0) i in
    omega (arith, rows, sums, less)

-- an end that was just attached was greeted: it stays, or was asked
pub record Greeted (first : EndId) (c d : Control) : Type 0 where
  pub places : (e : EndId) → is_end e first ≡ false → place_of d e ≡ place_of c e
  pub owners : (e : EndId) → owner_of d e ≡ owner_of c e
  pub reasons : (e : EndId) → is_end e first ≡ false → d.reasons e ≡ c.reasons e
  pub attached : d.attached ≡ c.attached
  pub objects : d.rows.objects ≡ c.rows.objects
  pub fresh : IsFresh (place_of d first)
  pub binds : (i : ℕ) → sum_by (of_ends bind_waits i) d.rows.pairs ≤ sum_by (of_ends bind_waits i) c.rows.pairs

module _ (first : EndId) (c : Control) (there : place_of c first ≡ At Active) (within : first.pair.0 < length c.rows.pairs) where
  stays : Greeted first c c
  stays = record {
    places = λ e other. refl;
    owners = λ e. refl;
    reasons = λ e other. refl;
    attached = refl;
    objects = refl;
    fresh = active_fresh (place_of c first) there;
    binds = λ i. omega arith;
  }

  asked : (reason : Reason) → Greeted first c (ask reason false first c)
  asked reason = subst (λ (b : Bool). Greeted first c (if b then happens (Asked reason false) first c else c)) (sym (ap is_here there)) (record {
    places = else_at c (Asked reason false) first Active there within;
    owners = same_owner c (Asked reason false) first Active there within;
    reasons = λ e other.
        ap (λ (rs : EndId → Option Reason). rs e) (reasons_now c (Asked reason false) first Active there within)
        ∙ ap (λ (b : Bool). if b then reason_in (Asked reason false) (place_of c first) (c.reasons first) else c.reasons e) other;
    attached = same_attached c (Asked reason false) first Active there within;
    objects = (end_moved c (Asked reason false) first within).objects;
    fresh = asked_fresh (place_of (happens (Asked reason false) first c) first) (now_at c (Asked reason false) first Active there within first (end_self first));
    binds = happens_binds (Asked reason false) first c within;
  })

  pub greeted : was_asked (obj c.rows (owner_of c first)).stage ≡ false → c.struck first ≡ false → (answer : Attached) → Greeted first c (greet answer first c)
  greeted unasked unstruck Yes =
      subst (λ (b : Bool). Greeted first c (if b then ask Closed false first c else (if c.struck first then ask Closed false first c else c))) (sym unasked)
      (subst (λ (b : Bool). Greeted first c (if b then ask Closed false first c else c)) (sym unstruck) stays)
  greeted unasked unstruck IsBadId = asked BadId
  greeted unasked unstruck IsSecond = asked Second

  -- the same of an end whose owner may have been asked, or whose connect was struck
  pub greeted_any : (answer : Attached) → Greeted first c (greet answer first c)
  greeted_any Yes = by (was_asked (obj c.rows (owner_of c first)).stage) (c.struck first)
    where
      by : (a b : Bool) → Greeted first c (if a then ask Closed false first c else (if b then ask Closed false first c else c))
      by true b = asked Closed
      by false true = asked Closed
      by false false = stays
  greeted_any IsBadId = asked BadId
  greeted_any IsSecond = asked Second

module _ (c : Control) (a b : ℕ) (first : EndId) (number : first.pair.0 ≡ next_pair c) where
  abbrev drawn : Control
  drawn = draws a b c

  abbrev row : PairRow
  row = record { a_owner = a; b_owner = b; a = Unmade; b = Unmade }

  row_is : pair (draws a b c).rows first.pair.0 ≡ record { a_owner = a; b_owner = b; a = Unmade; b = Unmade }
  row_is = get_or_push c.rows.pairs row no_pair first.pair.0 (sym number)

  unmade : (x : Bool) → end_place (pair (draws a b c).rows first.pair.0) x ≡ Unmade
  unmade true = ap (λ (p : PairRow). p.a) row_is
  unmade false = ap (λ (p : PairRow). p.b) row_is

  pub drawn_mine : place_of (draws a b c) first ≡ Unmade
  drawn_mine = unmade first.a

  pub drawn_theirs : place_of (draws a b c) (other_end first) ≡ Unmade
  drawn_theirs = unmade (not first.a)

  owner_by_side : (x : Bool) → end_owner (pair (draws a b c).rows first.pair.0) x ≡ cond x a b
  owner_by_side true = ap (λ (p : PairRow). p.a_owner) row_is
  owner_by_side false = ap (λ (p : PairRow). p.b_owner) row_is

  pub drawn_owner : owner_of (draws a b c) first ≡ cond first.a a b
  drawn_owner = owner_by_side first.a

  pub drawn_other : owner_of (draws a b c) (other_end first) ≡ cond (not first.a) a b
  drawn_other = owner_by_side (not first.a)

  pub drawn_within : first.pair.0 < length (draws a b c).rows.pairs
  drawn_within = let many = length_push c.rows.pairs row in omega (arith, many, number)

  before : (k : ℕ) → k < length c.rows.pairs → pair (draws a b c).rows k ≡ pair c.rows k
  before k less = get_or_append_left c.rows.pairs (row ∷ []) no_pair k less

  module _ (bind : Word) where
    -- the first end is in use
    pub opened_there : place_of (open_pair first bind (draws a b c)) first ≡ At Active
    opened_there = ap (λ (p : PairRow). end_place p first.a) (get_or-set_same (draws a b c).rows.pairs first.pair.0 (pair_after Opens first.a (pair (draws a b c).rows first.pair.0)) no_pair drawn_within) ∙ at first.a
      where
        at : (x : Bool) → end_place (pair_after Opens x (pair (draws a b c).rows first.pair.0)) x ≡ At Active
        at true = refl
        at false = refl

    pub opened_mine : owner_of (open_pair first bind (draws a b c)) first ≡ cond first.a a b
    opened_mine = opened_owner (draws a b c) first first ∙ drawn_owner

    pub opened_other : owner_of (open_pair first bind (draws a b c)) (other_end first) ≡ cond (not first.a) a b
    opened_other = opened_owner (draws a b c) first (other_end first) ∙ drawn_other

    pub opened_within : first.pair.0 < length (open_pair first bind (draws a b c)).rows.pairs
    opened_within = subst (λ (n : ℕ). first.pair.0 < n) (sym (length-set (draws a b c).rows.pairs first.pair.0 (pair_after Opens first.a (pair (draws a b c).rows first.pair.0)))) drawn_within

    opened_before : (k : ℕ) → k < length c.rows.pairs → pair (open_pair first bind (draws a b c)).rows k ≡ pair c.rows k
    opened_before k less =
        get_or-set_other (draws a b c).rows.pairs first.pair.0 k (pair_after Opens first.a (pair (draws a b c).rows first.pair.0)) no_pair (λ same. past same) ∙ before k less
      where
        past : k ≡ first.pair.0 → ⊥
        past same = omega (arith, same, number, less)

    other_end_is : (e : EndId) → e.pair.0 < length c.rows.pairs → is_end e first ≡ false
    other_end_is e less = by (is_end e first) refl
      where
        by : (x : Bool) → is_end e first ≡ x → is_end e first ≡ false
        by false is = is
        by true is = absurd (past (ap (λ (d : EndId). d.pair.0) (same_end e first is)))
          where
            past : e.pair.0 ≡ first.pair.0 → ⊥
            past same = omega (arith, same, number, less)

    -- one bind more is on its way to the other end's owner
    pub opened_binds : (i : ℕ) → sum_by (of_ends bind_waits i) (open_pair first bind (draws a b c)).rows.pairs ≡ sum_by (of_ends bind_waits i) c.rows.pairs + cond (cond (not first.a) a b == i) 1 0
    opened_binds i =
        let sums = sum_by-set (of_ends bind_waits i) (draws a b c).rows.pairs first.pair.0 (pair_after Opens first.a (pair (draws a b c).rows first.pair.0)) no_pair drawn_within in
        let push = sum_by_push (of_ends bind_waits i) c.rows.pairs row in
        let was = ap (of_ends bind_waits i) row_is in
        let now = ap (λ (p : PairRow). of_ends bind_waits i (pair_after Opens first.a p)) row_is ∙ made first.a in
        let none = none_waits (a == i) (b == i) in
        omega (arith, sums, push, was, now, none)
      where
        none_waits : (x y : Bool) → ◌≡◌ {A = ℕ} (cond x 0 0 + cond y 0 0) 0
        none_waits true true = refl
        none_waits true false = refl
        none_waits false true = refl
        none_waits false false = refl

        left_zero : (x y : Bool) → ◌≡◌ {A = ℕ} (cond x 0 0 + cond y 1 0) (cond y 1 0)
        left_zero true true = refl
        left_zero true false = refl
        left_zero false true = refl
        left_zero false false = refl

        right_zero : (x y : Bool) → ◌≡◌ {A = ℕ} (cond x 1 0 + cond y 0 0) (cond x 1 0)
        right_zero true true = refl
        right_zero true false = refl
        right_zero false true = refl
        right_zero false false = refl

        made : (x : Bool) → of_ends bind_waits i (pair_after Opens x row) ≡ cond (cond (not x) a b == i) 1 0
        made true = left_zero (a == i) (b == i)
        made false = right_zero (a == i) (b == i)

    pub pair_attaches : (d : Control) → Greeted first (open_pair first bind (draws a b c)) d → Attaches c d (cond first.a a b) (first ∷ [])
    pair_attaches d g = record {
      attached = g.attached;
      places = λ e less. g.places e (other_end_is e less) ∙ ap (λ (p : PairRow). end_place p e.a) (opened_before e.pair.0 less);
      owners = λ e less. g.owners e ∙ ap (λ (p : PairRow). end_owner p e.a) (opened_before e.pair.0 less);
      reasons = λ e less. g.reasons e (other_end_is e less);
      theirs = All-cons (λ e. owner_of d e ≡ cond first.a a b) first [] (g.owners first ∙ opened_mine) (All-nil (λ e. owner_of d e ≡ cond first.a a b));
      fresh = All-cons (λ e. IsFresh (place_of d e)) first [] g.fresh (All-nil (λ e. IsFresh (place_of d e)));
    }

-- ---- a pair whose number was drawn before
row_opens : (a : Bool) (p : PairRow) (i : ℕ) → end_place p a ≡ Unmade → end_place p (not a) ≡ Unmade → ◌≡◌ {A = ℕ} (of_ends bind_waits i (pair_after Opens a p)) (of_ends bind_waits i p + cond (end_owner p (not a) == i) 1 0)
row_opens a p i mine theirs = by a mine theirs
  where
    sums : (x y : Bool) (m n : ℕ) → m ≡ 0 → n ≡ 0 → ◌≡◌ {A = ℕ} (cond x 0 0 + cond y 1 0) (cond x m 0 + cond y n 0 + cond y 1 0)
    sums true true m n f g = omega (arith, f, g)
    sums true false m n f g = omega (arith, f, g)
    sums false true m n f g = omega (arith, f, g)
    sums false false m n f g = omega (arith, f, g)

    turned : (x y : Bool) (m n : ℕ) → m ≡ 0 → n ≡ 0 → ◌≡◌ {A = ℕ} (cond x 1 0 + cond y 0 0) (cond x m 0 + cond y n 0 + cond x 1 0)
    turned true true m n f g = omega (arith, f, g)
    turned true false m n f g = omega (arith, f, g)
    turned false true m n f g = omega (arith, f, g)
    turned false false m n f g = omega (arith, f, g)

    by : (b : Bool) → end_place p b ≡ Unmade → end_place p (not b) ≡ Unmade → ◌≡◌ {A = ℕ} (of_ends bind_waits i (pair_after Opens b p)) (of_ends bind_waits i p + cond (end_owner p (not b) == i) 1 0)
    by true x y = sums (p.a_owner == i) (p.b_owner == i) (bind_waits p.a) (bind_waits p.b) (ap bind_waits x) (ap bind_waits y)
    by false x y = turned (p.a_owner == i) (p.b_owner == i) (bind_waits p.a) (bind_waits p.b) (ap bind_waits y) (ap bind_waits x)

-- its bind is one more on its way
pub made_binds : (c : Control) (first : EndId) (bind : Word) → first.pair.0 < length c.rows.pairs → place_of c first ≡ Unmade → place_of c (other_end first) ≡ Unmade → (i : ℕ) →
    binds_to i (open_pair first bind c) ≡ binds_to i c + cond (owner_of c (other_end first) == i) 1 0
made_binds c first bind within mine theirs i =
    let sums = sum_by-set (of_ends bind_waits i) c.rows.pairs first.pair.0 (pair_after Opens first.a (pair c.rows first.pair.0)) no_pair within in
    let row = row_opens first.a (pair c.rows first.pair.0) i mine theirs in
    omega (arith, sums, row)

-- The open sockets of all actors: none was closed, and no two actors have one.
use Rattle.std.specs.Prelude.{◌≡◌, ◌≢◌, ◌==◌, ◌+◌, ◌||◌, ◌++◌, ℕ, suc, Bool, true, false, List, [], ◌∷◌, None, Some, if◌then◌else◌, map, refl}
use Rattle.std.specs.List.{list_any}
use Rattle.std.proofs.Common.{arith, sym, ap, ◌∙◌, subst, inl, inr}
use Rattle.std.proofs.lemmas.Bool.{eq-eqb, eqb-true, eqb-false}
use Rattle.zq_base.specs.Ends.{PipeId}
use Rattle.spec_pattern.specs.PipeStep.{PipeStep}
use Rattle.spec_control.specs.declared.stage.Use.{Use}
use Rattle.spec_control.specs.declared.stage.Use.TheVariants.{Unused, OnItsWay, Used}
use Rattle.spec_control.specs.declared.entry.Did.{Did}
use Rattle.spec_control.specs.declared.entry.Did.TheVariants.{Asked, Delivered, Delimited}
use Rattle.spec_control.specs.declared.entry.Item.{Item}
use Rattle.spec_control.specs.declared.entry.Item.TheVariants.{Event, Seen}
use Rattle.spec_control.specs.Stage.{is_unused, is_used}
use Rattle.spec_control.specs.Row.{is_socket}
use Rattle.spec_control.specs.Rows.{obj}
use Rattle.spec_control.specs.Control.{Control}
use Rattle.spec_control.specs.ControlRun.{FitsItem, after_item}
use Rattle.control_laws.proofs.ListLemmas.{never}
use Rattle.spec_control.specs.Moments.{first_waiting}
use Rattle.control_laws.specs.OwnMoves.{own_moves}
use Rattle.control_laws.proofs.SoundLemmas.{socket_there}
use Rattle.control_laws.proofs.BetweenLemmas.{asks_over}
use Rattle.control_laws.proofs.HeldEventLemmas.{word_closes}
use Rattle.control_laws.proofs.HeldClosedLemmas.{event_unused, asked_none}
use Rattle.control_laws.proofs.HeldRowLemmas.{event_keeps}
use Rattle.spec_run.specs.Script.{Script}
use Rattle.spec_run.specs.Act.{Act, Step, Said, Deed, all_acts}
use Rattle.spec_run.specs.OpenSocket.{OpenSock}
use Rattle.spec_run.specs.Standing.{ActorStanding, standing_before}
use Rattle.spec_run.specs.InTurns.{ActorStep}
use Rattle.spec_run.specs.CoreEvents.{actor_with}
use Rattle.replay_laws.specs.Mailboxes.{HaveBoxes}
use Rattle.replay_laws.proofs.WalkLemmas.{leaves, Walks, Reached, reached_item}
use Rattle.replay_laws.proofs.LetterLemmas.{kept_of, boxes_of}
use Rattle.replay_laws.proofs.LineLemmas.{EachStands}
use Rattle.replay_laws.proofs.KeepLemmas.{each_aside}
use Rattle.replay_laws.proofs.ReapLemmas.{taker_used}
use Rattle.replay_laws.proofs.ActorLemmas.{actor_stands}
use Rattle.replay_laws.proofs.TurnLemmas.{at_place}
use Rattle.replay_laws.proofs.JournalLemmas.{none_open}
use Rattle.replay_laws.proofs.CloseLemmas.{closes_item, closed_by, Spares}
use Rattle.replay_laws.proofs.AmongLemmas.{has_sock}
use Rattle.replay_laws.proofs.SocketLemmas.{IsOpenRow, IsMade, Changes, step_changes}

or_false : (a b : Bool) → (a || b) ≡ false → (a ≡ false) × (b ≡ false)
or_false true b e = absurd (never (sym e))
or_false false b e = (refl, e)

not_both : (u : Use) → is_unused u ≡ true → is_used u ≡ true → ⊥
not_both Unused f g = never g
not_both OnItsWay f g = never f
not_both Used f g = never f

module _ {N S : Type 0} where
  -- ---- what nothing closes stays open
  asks_none : (c : Control) (i : ℕ) (did : Did N S) → closes_item i (Event (record { by = 0; did = did })) ≡ false → list_any (asks_over i) (own_moves c did) ≡ false
  asks_none c i (Asked req reply h) free = asked_none i c req reply free
  asks_none c i (Delivered slot letter h) free = word_closes i letter.to.0 letter.word
  asks_none c i (Delimited e h) free = refl

  open_item : (item : Item N S) (c : Control) → Reached N S c → FitsItem c item → (i : ℕ) → closes_item i item ≡ false → IsOpenRow (obj c.rows i) → IsOpenRow (obj (after_item item c).rows i)
  open_item (Event entry) c r fits i free row =
      let there = socket_there c.rows i row.socket in
      record {
        socket = ap is_socket (event_keeps c entry.did (kept_of c r) fits i there).kind ∙ row.socket;
        unused = event_unused c entry.did (kept_of c r) fits i there (asks_none c i entry.did free) ∙ row.unused;
      }
  open_item (Seen sight) c r fits i free row = row

  pub open_on : (cap : PipeId → ℕ) (acts : List (Act N S)) (c : Control) (past : List PipeStep) → Reached N S c → Walks cap c past acts → (i : ℕ) → closed_by i acts ≡ false → IsOpenRow (obj c.rows i) → IsOpenRow (obj (leaves c acts).rows i)
  open_on cap [] c past r w i free row = row
  open_on cap (Step s ∷ acts) c past r w i free row = open_on cap acts c (past ++ s ∷ []) r w.1 i free row
  open_on cap (Said m ∷ acts) c past r w i free row =
      let none = or_false (closes_item i m.item) (closed_by i acts) free in
      open_on cap acts (after_item m.item c) past (reached_item m.item c r w.1) w.2 i none.1 (open_item m.item c r w.1 i none.0 row)

-- ---- the open sockets of all actors
abbrev pub socks_at : List ActorStanding → ℕ → List OpenSock
socks_at sts w = (at_place sts w).mine.socks

pub record AllOpen (c : Control) (sts : List ActorStanding) : Type 0 where
  pub stand : (w : ℕ) → EachStands c (socks_at sts w)
  pub rows : (w i : ℕ) → has_sock i (socks_at sts w) ≡ true → IsOpenRow (obj c.rows i)
  pub apart : (w v i : ℕ) → has_sock i (socks_at sts w) ≡ true → has_sock i (socks_at sts v) ≡ true → w ≡ v

pub open_before : (c : Control) (script : Script) → AllOpen c (map standing_before script)
open_before c script = record {
  stand = λ w. subst (EachStands c) (sym (none_open script w)) tt;
  rows = λ w i h. absurd (never (sym (ap (has_sock i) (none_open script w)) ∙ h));
  apart = λ w v i h g. absurd (never (sym (ap (has_sock i) (none_open script w)) ∙ h));
}

-- of other standings that have the same sockets
pub open_as : (c : Control) (sts news : List ActorStanding) → ((w : ℕ) → at_place news w ≡ at_place sts w) → AllOpen c sts → AllOpen c news
open_as c sts news same all =
    let socks : (w : ℕ) → socks_at news w ≡ socks_at sts w = λ w. ap (λ (x : ActorStanding). x.mine.socks) (same w) in
    record {
      stand = λ w. subst (EachStands c) (sym (socks w)) (all.stand w);
      rows = λ w i h. all.rows w i (sym (ap (has_sock i) (socks w)) ∙ h);
      apart = λ w v i h g. all.apart w v i (sym (ap (has_sock i) (socks w)) ∙ h) (sym (ap (has_sock i) (socks v)) ∙ g);
    }

-- ---- no actor has the mailbox of which the reaper takes a letter
slot_free : (c : Control) (slot : ℕ) → HaveBoxes c → first_waiting c ≡ Some slot → (socks : List OpenSock) → EachStands c socks → ((i : ℕ) → has_sock i socks ≡ true → IsOpenRow (obj c.rows i)) → list_any (λ s. s.slot == slot) socks ≡ false
slot_free c slot boxes first [] each rows = refl
slot_free c slot boxes first (s ∷ socks) each rows = by (s.slot == slot) refl (slot_free c slot boxes first socks each.1 (λ i h. rows i (later i h)))
  where
    later : (i : ℕ) → has_sock i socks ≡ true → has_sock i (s ∷ socks) ≡ true
    later i h = grown (s.object == i) h
      where
        grown : (a : Bool) → has_sock i socks ≡ true → (a || has_sock i socks) ≡ true
        grown true g = refl
        grown false g = g

    here : has_sock s.object (s ∷ socks) ≡ true
    here = ap (λ (b : Bool). b || has_sock s.object socks) (eq-eqb s.object s.object refl)

    by : (b : Bool) → (s.slot == slot) ≡ b → list_any (λ x. x.slot == slot) socks ≡ false → (b || list_any (λ x. x.slot == slot) socks) ≡ false
    by true e rest =
        let used = taker_used c boxes slot s.object first (each.0.sits.slot ∙ eqb-true s.slot slot e) each.0.sits.socket in
        absurd (not_both (obj c.rows s.object).request (rows s.object here).unused used.used)
    by false e rest = rest

none_with : (slot n : ℕ) (sts : List ActorStanding) → ((w : ℕ) → list_any (λ s. s.slot == slot) (socks_at sts w) ≡ false) → actor_with slot n sts ≡ None
none_with slot n [] none = refl
none_with slot n (st ∷ sts) none =
    ap (λ (b : Bool). if b then Some n else actor_with slot (n + 1) sts) (none 0) ∙ none_with slot (n + 1) sts (λ w. none (suc w))

module _ {N S : Type 0} where
  -- acts that close nothing leave them
  pub open_aside : (cap : PipeId → ℕ) (acts : List (Act N S)) (c : Control) (past : List PipeStep) (sts : List ActorStanding) → Reached N S c → Walks cap c past acts → Spares acts → AllOpen c sts → AllOpen (leaves c acts) sts
  open_aside cap acts c past sts r w spares all = record {
    stand = λ v. each_aside cap acts c past r w (socks_at sts v) (all.stand v);
    rows = λ v i h. open_on cap acts c past r w i (spares i) (all.rows v i h);
    apart = all.apart;
  }

  -- ---- an actor's step
  module _ (cap : PipeId → ℕ) (c : Control) (past : List PipeStep) (sts news : List ActorStanding) (w : ℕ) (ds : List (Deed N S)) (r : Reached N S c) (walk : Walks cap c past (all_acts ds)) (all : AllOpen c sts)
      (step : ActorStep (at_place sts w) ds (at_place news w)) (others : (v : ℕ) → v ≢ w → at_place news v ≡ at_place sts v) where
    changes : Changes c (all_acts ds) (socks_at sts w) (socks_at news w)
    changes = step_changes cap c past (at_place sts w) (at_place news w) ds walk step

    same_socks : (v : ℕ) → v ≢ w → socks_at news v ≡ socks_at sts v
    same_socks v other = ap (λ (x : ActorStanding). x.mine.socks) (others v other)

    -- it closes no other's
    free : (v i : ℕ) → v ≢ w → has_sock i (socks_at sts v) ≡ true → closed_by i (all_acts ds) ≡ false
    free v i other has = by (closed_by i (all_acts ds)) refl
      where
        by : (b : Bool) → closed_by i (all_acts ds) ≡ b → b ≡ false
        by true e = absurd (other (all.apart v w i has (changes.closed i e)))
        by false e = refl

    -- nobody has what is new
    unmade : (v i : ℕ) → has_sock i (socks_at sts v) ≡ true → IsMade c (leaves c (all_acts ds)) i → ⊥
    unmade v i has made = let there = socket_there c.rows i (all.rows v i has).socket in let number = made.number in omega (arith, there, number)

    here_rows : (i : ℕ) → has_sock i (socks_at news w) ≡ true → IsOpenRow (obj (leaves c (all_acts ds)).rows i)
    here_rows i has = elim (changes.own i has) [
      | inl old ↦ open_on cap (all_acts ds) c past r walk i old.1 (all.rows w i old.0)
      | inr made ↦ made.row
    ]

    no_other : (v i : ℕ) → v ≢ w → has_sock i (socks_at news w) ≡ true → has_sock i (socks_at sts v) ≡ true → ⊥
    no_other v i other here there = elim (changes.own i here) [
      | inl old ↦ other (all.apart v w i there old.0)
      | inr made ↦ unmade v i there made
    ]

    pub open_step : AllOpen (leaves c (all_acts ds)) news
    open_step = record {
      stand = λ v. stand_at v (v == w) refl;
      rows = λ v i h. rows_at v i (v == w) refl h;
      apart = λ v u i h g. apart_at v u i (v == w) refl (u == w) refl h g;
    }
      where
        stand_at : (v : ℕ) (b : Bool) → (v == w) ≡ b → EachStands (leaves c (all_acts ds)) (socks_at news v)
        stand_at v true e = subst (λ n. EachStands (leaves c (all_acts ds)) (socks_at news n)) (sym (eqb-true v w e)) (actor_stands cap c past (at_place sts w) (at_place news w) ds r (all.stand w) walk step)
        stand_at v false e = subst (EachStands (leaves c (all_acts ds))) (sym (same_socks v (eqb-false v w e))) (each_aside cap (all_acts ds) c past r walk (socks_at sts v) (all.stand v))

        rows_at : (v i : ℕ) (b : Bool) → (v == w) ≡ b → has_sock i (socks_at news v) ≡ true → IsOpenRow (obj (leaves c (all_acts ds)).rows i)
        rows_at v i true e h = here_rows i (subst (λ n. has_sock i (socks_at news n) ≡ true) (eqb-true v w e) h)
        rows_at v i false e h =
            let other = eqb-false v w e in
            let has = sym (ap (has_sock i) (same_socks v other)) ∙ h in
            open_on cap (all_acts ds) c past r walk i (free v i other has) (all.rows v i has)

        apart_at : (v u i : ℕ) (a : Bool) → (v == w) ≡ a → (b : Bool) → (u == w) ≡ b → has_sock i (socks_at news v) ≡ true → has_sock i (socks_at news u) ≡ true → v ≡ u
        apart_at v u i true e true f h g = eqb-true v w e ∙ sym (eqb-true u w f)
        apart_at v u i true e false f h g =
            let other = eqb-false u w f in
            absurd (no_other u i other (subst (λ n. has_sock i (socks_at news n) ≡ true) (eqb-true v w e) h) (sym (ap (has_sock i) (same_socks u other)) ∙ g))
        apart_at v u i false e true f h g =
            let other = eqb-false v w e in
            absurd (no_other v i other (subst (λ n. has_sock i (socks_at news n) ≡ true) (eqb-true u w f) g) (sym (ap (has_sock i) (same_socks v other)) ∙ h))
        apart_at v u i false e false f h g =
            all.apart v u i (sym (ap (has_sock i) (same_socks v (eqb-false v w e))) ∙ h) (sym (ap (has_sock i) (same_socks u (eqb-false u w f))) ∙ g)

  pub reapers_alone : (c : Control) (slot : ℕ) (sts : List ActorStanding) → Reached N S c → AllOpen c sts → first_waiting c ≡ Some slot → actor_with slot 0 sts ≡ None
  reapers_alone c slot sts r all first = none_with slot 0 sts (λ w. slot_free c slot (boxes_of c r) first (socks_at sts w) (all.stand w) (all.rows w))

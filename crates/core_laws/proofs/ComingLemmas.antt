-- Of the ends on their way behind calls of a socket, those whose pairs were there before were on their way before.
use Rattle.std.specs.Prelude.{◌≡◌, ◌≤◌, ◌<◌, ◌+◌, ◌==◌, ◌⊎◌, ◌∷◌, [], ℕ, true, List, flat_map, refl}
use Rattle.std.proofs.Common.{sym, ap, ◌∙◌, subst, inl, inr}
use Rattle.std.proofs.lemmas.Bool.{cases_lt, eq-eqb, eqb-true}
use Rattle.std.proofs.lemmas.Grind.{flat_map-append}
use Rattle.zq_base.specs.Ends.{other_end}
use Rattle.zq_base.specs.declared.ids.EndId.{EndId}
use Rattle.spec_control.specs.declared.entry.Item.{Item}
use Rattle.spec_control.specs.Place.{is_away}
use Rattle.spec_control.specs.Row.{is_socket}
use Rattle.spec_control.specs.Rows.{obj, pair}
use Rattle.spec_control.specs.Control.{Control, id, next_object, next_pair, owner_of, place_of}
use Rattle.spec_control.specs.ControlRun.{after_item}
use Rattle.spec_control.specs.Names.{name_in, name_of, named_in}
use Rattle.control_laws.proofs.ListLemmas.{and, left, right}
use Rattle.spec_control.specs.Moments.{Moment, items_in, moments_from}
use Rattle.ctl_plane.specs.Past.{control_of}
use Rattle.desk.specs.Desk.{slot_after}
use Rattle.control_laws.proofs.AwayLemmas.{away_in}
use Rattle.control_laws.proofs.SoundLemmas.{socket_there, sound_of}
use Rattle.plain_desk.specs.Lent.{coming_to, moments_of, GrowsBy, HasSocket, IsOneOrder, Lent}
use Rattle.socket_laws.proofs.SocketLemmas.{is_in, kept_now}
use Rattle.core_laws.specs.Calls.{AreCallsOn, for_caller}
use Rattle.core_laws.specs.Coming.{HasNoneMade, WasComing}
use Rattle.core_laws.specs.Lines.{OldEndsCame, SendsNoOther}
use Rattle.plain_desk.proofs.BoxLemmas.{same_box, socket_slot}
use Rattle.plain_desk.proofs.StayLemmas.{found_by, led_more, stays_at}
use Rattle.core_laws.proofs.GrownLemmas.{calls_on, follows, led_from}
use Rattle.core_laws.proofs.SentLemmas.{all_away, all_unnamed, named_before}
use Rattle.core_laws.proofs.SilentLemmas.{one_order_of}

items_from : {N S : Type 0} (c : Control) (xs : List (Item N S)) → items_in (moments_from c xs) ≡ xs
items_from c [] = refl
items_from {N} {S} c (x ∷ xs) = ap (λ (l : List (Item N S)). x ∷ l) (items_from (after_item x c) xs)

module _ {G N S : Type 0} (old new : Lent G N S) (o : ℕ) (calls : AreCallsOn o old new) (known : HasSocket old (id o)) (e : EndId) (within : e.pair.0 < next_pair (control_of old.past)) where
  abbrev grows : GrowsBy old new
  grows = calls.grows

  abbrev before : IsOneOrder old
  before = calls.before

  abbrev behind : IsOneOrder new
  behind = calls.behind

  abbrev c : Control
  c = found_by old new behind grows

  abbrev ms : List (Moment N S)
  ms = moments_from c grows.more

  -- the control states before and behind them, and who has the end then
  abbrev b : Control
  b = control_of old.past

  abbrev d : Control
  d = control_of new.past

  abbrev n : ℕ
  n = owner_of d e

  pub named : (x : EndId) → x.pair.0 < next_pair c → name_of new.items x ≡ name_of old.items x
  named x within =
      ap (λ (xs : List (Item N S)). name_of xs x) grows.items
      ∙ ap (name_in x) (flat_map-append named_in old.items grows.more)
      ∙ named_before x (flat_map named_in old.items) (flat_map named_in grows.more)
      (ap (λ (xs : List (Item N S)). name_in x (flat_map named_in xs)) (sym (items_from c grows.more)) ∙ all_unnamed old.past.workers o x ms c (follows old new behind grows before o known) (calls_on old new o calls) within)

  pub was_away : (i : ℕ) → away_in e i (pair (control_of new.past).rows e.pair.0) ≡ true → away_in e i (pair (control_of old.past).rows e.pair.0) ≡ true
  was_away i is =
      subst (λ (x : Control). away_in e i (pair x.rows e.pair.0) ≡ true) (sym before.control)
      (all_away old.past.workers o e i ms c (follows old new behind grows before o known) (calls_on old new o calls) (subst (λ (x : Control). e.pair.0 < next_pair x) before.control within)
      (subst (λ (x : Control). away_in e i (pair x.rows e.pair.0) ≡ true) (led_more old new behind grows ∙ sym (led_from grows.more c)) is))

  pub old_end_came : (slot : ℕ) → coming_to new slot e ≡ true → WasComing slot old new e
  old_end_came slot is = record {
    coming = and (is_away (place_of b e)) (slot == (obj b.rows (owner_of b e)).slot) (left (is_away (place_of b e)) (owner_of b e == n) was)
        (eq-eqb slot (obj b.rows (owner_of b e)).slot (at ∙ (stays_at old new behind grows before n there).slot ∙ ap (λ (m : ℕ). (obj b.rows m).slot) (sym same)));
    written = named e here;
    read = named (other_end e) here;
  }
    where
      here : e.pair.0 < next_pair c
      here = subst (λ (x : Control). e.pair.0 < next_pair x) before.control within

      at : slot ≡ (obj (control_of new.past).rows n).slot
      at = eqb-true slot (obj d.rows n).slot (right (is_away (place_of d e)) (slot == (obj d.rows n).slot) is)

      was : away_in e n (pair b.rows e.pair.0) ≡ true
      was = was_away n (and (is_away (place_of d e)) (n == n) (left (is_away (place_of d e)) (slot == (obj d.rows n).slot) is) (eq-eqb n n refl))

      same : owner_of b e ≡ n
      same = eqb-true (owner_of b e) n (right (is_away (place_of b e)) (owner_of b e == n) was)

      there : n < next_object (control_of old.past)
      there = subst (λ (m : ℕ). m < next_object b) same ((sound_of b (kept_now old before)).ends e.pair.0 e.a)

pub old_ends_came : (G N S : Type 0) → OldEndsCame G N S
old_ends_came G N S old new o calls known slot e within is = old_end_came old new o calls known e within slot is

-- ---- where no end of a pair that was made is the object's
module _ {G N S : Type 0} (old new : Lent G N S) (o : ℕ) (calls : AreCallsOn o old new) (known : HasSocket old (id o)) (j u : ℕ) (theirs : HasSocket (for_caller j old) (id u)) where
  abbrev box : ℕ
  box = (slot_after u (moments_of (for_caller j old))).0

  -- an end on its way to a mailbox is its object's
  pub its_own : (e : EndId) → coming_to new box e ≡ true → owner_of (control_of new.past) e ≡ u
  its_own e is =
      let d = control_of new.past in
      let grown = calls.grows in
      let was = is_in (for_caller j old) (one_order_of j old calls.before) u theirs in
      let open_now = was.open_now in
      let stays = stays_at old new calls.behind grown calls.before u (socket_there (control_of old.past).rows u open_now.socket) in
      let socket = ap is_socket stays.kind ∙ open_now.socket in
      let order : IsOneOrder new = calls.behind in
      let at = eqb-true box (obj d.rows (owner_of d e)).slot (right (is_away (place_of d e)) (box == (obj d.rows (owner_of d e)).slot) is) in
      sym (same_box new.past.workers d order.boxes u (owner_of d e) socket ((sound_of d (kept_now new order)).ends e.pair.0 e.a)
      (socket_slot new.past.workers d order.boxes u socket ∙ ap (λ (w : ℕ). w + u) grown.workers ∙ sym was.slot ∙ at))

  was_coming : HasNoneMade u old new → (e : EndId) → coming_to new box e ≡ true → WasComing box old new e
  was_coming none e is = by (cases_lt e.pair.0 (next_pair (control_of old.past)))
    where
      by : (e.pair.0 < next_pair (control_of old.past)) ⊎ (next_pair (control_of old.past) ≤ e.pair.0) → WasComing box old new e
      by (inl within) = old_end_came old new o calls known e within box is
      by (inr since) = absurd (none e since (its_own e is))

pub sends_no_other : (G N S : Type 0) → SendsNoOther G N S
sends_no_other G N S old new o calls known j u theirs none = record {
  coming = λ e is. (let was = was_coming old new o calls known j u theirs none e is in was.coming);
  written = λ e is. (let was = was_coming old new o calls known j u theirs none e is in was.written);
  read = λ e is. (let was = was_coming old new o calls known j u theirs none e is in was.read);
}

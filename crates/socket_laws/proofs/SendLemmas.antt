-- A moment more that is no request makes no pipe, and puts no end on its way.
use Rattle.std.specs.Prelude.{◌≡◌, ◌&&◌, ◌==◌, ◌++◌, ◌∷◌, [], ℕ, true, false, List, flat_map, map, sum_by, refl}
use Rattle.std.proofs.Common.{arith, sym, ap, ◌∙◌, subst}
use Rattle.std.proofs.lemmas.Bool.{eq-eqb, eqb-true}
use Rattle.std.proofs.lemmas.Grind.{flat_map-append}
use Rattle.std.proofs.lemmas.List.{append-nil, append_cancel_left}
use Rattle.zq_base.specs.declared.ids.EndId.{EndId}
use Rattle.spec_control.specs.declared.entry.Did.{Did}
use Rattle.spec_control.specs.declared.entry.Did.TheVariants.{Asked, Delivered, Delimited}
use Rattle.spec_control.specs.declared.entry.Item.{Item}
use Rattle.spec_control.specs.declared.entry.Item.TheVariants.{Event, Seen}
use Rattle.spec_control.specs.declared.entry.PipeName.{PipeName}
use Rattle.spec_control.specs.Place.{is_away}
use Rattle.spec_control.specs.Rows.{obj, pair}
use Rattle.spec_control.specs.Control.{Control, begun, owner_of, place_of}
use Rattle.spec_control.specs.ControlRun.{Fits, FitsItem, IsControlRun, after_all, after_item}
use Rattle.spec_control.specs.Names.{name_in, name_of, named_in}
use Rattle.control_laws.proofs.ListLemmas.{never, and, left, right}
use Rattle.control_laws.specs.Kept.{Kept}
use Rattle.spec_control.specs.Moments.{Moment, moments_from}
use Rattle.control_laws.specs.OwnMoves.{own_moves}
use Rattle.ctl_plane.specs.Past.{control_of}
use Rattle.control_laws.proofs.AwayLemmas.{away_before, away_in, opening, word_opens}
use Rattle.plain_desk.specs.Lent.{coming_to, moments_of, GrowsBy, IsOneOrder, Lent}
use Rattle.plain_desk.proofs.StayLemmas.{stays_at}
use Rattle.control_laws.proofs.SoundLemmas.{sound_of}
use Rattle.socket_laws.specs.Behind.{is_request, is_requested, IsOneCall}
use Rattle.socket_laws.specs.Laws.{NoMomentNoItem, RequestsAloneSend}
use Rattle.socket_laws.proofs.LastLemmas.{grown, last_fits, moments_are_last}
use Rattle.socket_laws.proofs.SocketLemmas.{kept_now}

map_none : {X Y : Type 0} (f : X → Y) (xs : List X) → map f xs ≡ [] → xs ≡ []
map_none f [] e = refl
map_none {X} {Y} f (x ∷ xs) e = absurd (none_more e)
  where
    none_more : {y : Y} {ys : List Y} → y ∷ ys ≡ [] → ⊥
    none_more h = Prim.grind arith

module _ {N S : Type 0} (c : Control) where
  did_opens : (did : Did N S) → is_requested did ≡ false → sum_by opening (own_moves c did) ≡ 0
  did_opens (Asked req reply h) none = absurd (never (sym none))
  did_opens (Delivered slot letter h) none = word_opens letter.to.0 letter.word
  did_opens (Delimited e h) none = refl

  did_names : (did : Did N S) (by : ℕ) → is_requested did ≡ false → Fits c did → named_in (let item : Item N S = Event (record { by = by; did = did }) in item) ≡ []
  did_names (Asked req reply h) by none fits = absurd (never (sym none))
  did_names (Delivered slot letter h) by none fits = map_none (λ (n : PipeName N). n.pipe) h.opened (let is = fits.answered in is.opened)
  did_names (Delimited e h) by none fits = map_none (λ (n : PipeName N). n.pipe) h.opened (let is = fits.answered in is.opened)

  pub item_names : (item : Item N S) → is_request item ≡ false → FitsItem c item → named_in item ≡ []
  item_names (Event entry) none fits = did_names entry.did entry.by none fits
  item_names (Seen sight) none fits = refl

  pub item_away : (item : Item N S) → Kept c → is_request item ≡ false → FitsItem c item → (e : EndId) (n : ℕ) → away_in e n (pair (after_item item c).rows e.pair.0) ≡ true → away_in e n (pair c.rows e.pair.0) ≡ true
  item_away (Event entry) kept none fits e n is = away_before e n c entry.did kept fits (did_opens entry.did none) is
  item_away (Seen sight) kept none fits e n is = is

module _ {G N S : Type 0} (old new : Lent G N S) (before : IsOneOrder old) (behind : IsOneOrder new) (grows : GrowsBy old new) where
  -- an end on its way was on it before, if it is on it by the control states
  pub coming_before : ((e : EndId) (n : ℕ) → away_in e n (pair (control_of new.past).rows e.pair.0) ≡ true → away_in e n (pair (control_of old.past).rows e.pair.0) ≡ true) →
      (slot : ℕ) (e : EndId) → coming_to new slot e ≡ true → coming_to old slot e ≡ true
  coming_before was_away slot e is =
      let d = control_of new.past in
      let c = control_of old.past in
      let n = owner_of d e in
      let away = left (is_away (place_of d e)) (slot == (obj d.rows n).slot) is in
      let at = eqb-true slot (obj d.rows n).slot (right (is_away (place_of d e)) (slot == (obj d.rows n).slot) is) in
      let was = was_away e n (and (is_away (place_of d e)) (n == n) away (eq-eqb n n refl)) in
      let same = eqb-true (owner_of c e) n (right (is_away (place_of c e)) (owner_of c e == n) was) in
      let stays = stays_at old new behind grows before (owner_of c e) ((sound_of c (kept_now old before)).ends e.pair.0 e.a) in
      and (is_away (place_of c e)) (slot == (obj c.rows (owner_of c e)).slot) (left (is_away (place_of c e)) (owner_of c e == n) was)
      (eq-eqb slot (obj c.rows (owner_of c e)).slot (at ∙ ap (λ (m : ℕ). (obj d.rows m).slot) (sym same) ∙ stays.slot))

-- the item of a call fits the control state that the order led to
pub fits_last : (G N S : Type 0) (old new : Lent G N S) (m : Moment N S) → IsOneCall old new m → FitsItem (control_of old.past) m.item
fits_last G N S old new m call =
    let last = moments_are_last G N S old new m call in
    let grows = call.grows in
    let before = call.before in
    let behind = call.behind in
    let all = behind.order in
    let run = subst (λ (n : ℕ). IsControlRun (begun n) (old.items ++ m.item ∷ [])) grows.workers (subst (λ (xs : List (Item N S)). IsControlRun (begun new.past.workers) xs) last.items all.run) in
    subst (λ (c : Control). FitsItem c m.item) (sym before.control) (last_fits old.items m.item (begun old.past.workers) run)

pub requests_alone_send : (G N S : Type 0) → RequestsAloneSend G N S
requests_alone_send G N S old new m call none =
    let last = moments_are_last G N S old new m call in
    let grows = call.grows in
    let before = call.before in
    let fits = fits_last G N S old new m call in
    let names : (e : EndId) → name_of new.items e ≡ name_of old.items e =
    λ e. ap (λ (xs : List (Item N S)). name_of xs e) last.items
    ∙ ap (name_in e) (flat_map-append named_in old.items (m.item ∷ []))
    ∙ ap (λ (ns : List (PipeName N)). name_in e (flat_map named_in old.items ++ (ns ++ []))) (item_names (control_of old.past) m.item none fits)
    ∙ ap (name_in e) (append-nil (flat_map named_in old.items)) in
    let left_at : after_item m.item (control_of old.past) ≡ control_of new.past = ap (after_item m.item) (sym last.found) ∙ last.left in
    record {
      names = names;
      distinct = λ exact distinct is d e n of_d of_e. distinct is d e n (sym (names d) ∙ of_d) (sym (names e) ∙ of_e);
      coming = coming_before old new before call.behind grows (λ e n is.
          item_away (control_of old.past) m.item (kept_now old before) none fits e n (subst (λ (c : Control). away_in e n (pair c.rows e.pair.0) ≡ true) (sym left_at) is));
    }

-- ---- no moment more
none_from : {N S : Type 0} (c : Control) (xs : List (Item N S)) → moments_from c xs ≡ [] → xs ≡ []
none_from c [] e = refl
none_from {N} {S} c (x ∷ xs) e = absurd (none_more e)
  where
    none_more : {y : Moment N S} {ys : List (Moment N S)} → y ∷ ys ≡ [] → ⊥
    none_more h = Prim.grind arith

pub no_moment_no_item : (G N S : Type 0) → NoMomentNoItem G N S
no_moment_no_item G N S old new before behind grows same =
    let c = after_all old.items (begun old.past.workers) in
    let none = none_from c grows.more (append_cancel_left (moments_of old) (moments_from c grows.more) [] (sym (grown old new grows) ∙ same ∙ sym (append-nil (moments_of old)))) in
    let items = grows.items ∙ ap (λ (xs : List (Item N S)). old.items ++ xs) none ∙ append-nil old.items in
    let control = behind.control ∙ ap (λ (n : ℕ). after_all new.items (begun n)) grows.workers ∙ ap (λ (xs : List (Item N S)). after_all xs (begun old.past.workers)) items ∙ sym before.control in
    record {
      items = items;
      control = control;
      sends = record {
        names = λ e. ap (λ (xs : List (Item N S)). name_of xs e) items;
        distinct = λ exact distinct is d e n of_d of_e. distinct is d e n (ap (λ (xs : List (Item N S)). name_of xs d) (sym items) ∙ of_d) (ap (λ (xs : List (Item N S)). name_of xs e) (sym items) ∙ of_e);
        coming = λ slot e is. ap (λ (d : Control). is_away (place_of d e) && slot == (obj d.rows (owner_of d e)).slot) (sym control) ∙ is;
      };
    }

-- Calls of a socket that are no requests make no pipe, and put no end on its way.
use Rattle.std.specs.Prelude.{◌≡◌, ◌++◌, ◌∷◌, [], ℕ, true, false, All, List, flat_map, refl}
use Rattle.std.proofs.Common.{sym, ap, ◌∙◌, subst}
use Rattle.std.proofs.lemmas.Grind.{flat_map-append}
use Rattle.std.proofs.lemmas.List.{append-nil}
use Rattle.std.proofs.lemmas.List.Elements.{All-head, All-tail}
use Rattle.zq_base.specs.Ends.{other_end}
use Rattle.zq_base.specs.declared.ids.EndId.{EndId}
use Rattle.spec_control.specs.declared.entry.Item.{Item}
use Rattle.spec_control.specs.declared.entry.Item.TheVariants.{Event, Seen}
use Rattle.spec_control.specs.declared.entry.PipeName.{PipeName}
use Rattle.spec_control.specs.Rows.{pair}
use Rattle.spec_control.specs.Control.{Control, begun}
use Rattle.spec_control.specs.ControlRun.{FitsItem, IsControlRun, after_all, after_item}
use Rattle.spec_control.specs.Names.{name_in, name_of, named_in}
use Rattle.control_laws.specs.Kept.{Kept}
use Rattle.control_laws.proofs.RunLemmas.{after_kept}
use Rattle.spec_control.specs.Moments.{Moment, moments_from}
use Rattle.control_laws.proofs.AwayLemmas.{away_in}
use Rattle.plain_desk.specs.Lent.{GrowsBy, IsOneOrder, Lent}
use Rattle.socket_laws.specs.Behind.{is_request, SendsNone}
use Rattle.socket_laws.proofs.SendLemmas.{coming_before, item_away, item_names}
use Rattle.socket_laws.proofs.SocketLemmas.{kept_now}
use Rattle.core_laws.specs.Calls.{AreCallsOn}
use Rattle.core_laws.specs.Laws.{CallsSendNone, SendsNoneAtAll}
use Rattle.plain_desk.proofs.StayLemmas.{led_more, run_more}
use Rattle.core_laws.proofs.GrownLemmas.{calls_are}

module _ {N S : Type 0} where
  abbrev IsNone : Moment N S → Type 0
  IsNone m = is_request m.item ≡ false

  kept_then : (c : Control) (item : Item N S) → Kept c → FitsItem c item → Kept (after_item item c)
  kept_then c (Event entry) kept fits = after_kept c entry.did kept fits
  kept_then c (Seen sight) kept fits = kept

  names_none : (xs : List (Item N S)) (c : Control) → IsControlRun c xs → All IsNone (moments_from c xs) → flat_map named_in xs ≡ []
  names_none [] c run none = refl
  names_none (x ∷ xs) c run none =
      let m : Moment N S = record { found = c; item = x } in
      ap (λ (ns : List (PipeName N)). ns ++ flat_map named_in xs) (item_names c x (All-head IsNone m (moments_from (after_item x c) xs) none) run.0)
      ∙ names_none xs (after_item x c) run.1 (All-tail IsNone m (moments_from (after_item x c) xs) none)

  away_none : (e : EndId) (n : ℕ) (xs : List (Item N S)) (c : Control) → Kept c → IsControlRun c xs → All IsNone (moments_from c xs) → away_in e n (pair (after_all xs c).rows e.pair.0) ≡ true → away_in e n (pair c.rows e.pair.0) ≡ true
  away_none e n [] c kept run none is = is
  away_none e n (x ∷ xs) c kept run none is =
      let m : Moment N S = record { found = c; item = x } in
      item_away c x kept (All-head IsNone m (moments_from (after_item x c) xs) none) run.0 e n
      (away_none e n xs (after_item x c) (kept_then c x kept run.0) run.1 (All-tail IsNone m (moments_from (after_item x c) xs) none) is)

module _ {G N S : Type 0} (old new : Lent G N S) (o : ℕ) (calls : AreCallsOn o old new) (none : All IsNone calls.more) where
  abbrev c : Control
  c = after_all old.items (begun old.past.workers)

  abbrev grows : GrowsBy old new
  grows = calls.grows

  before : IsOneOrder old
  before = calls.before

  behind : IsOneOrder new
  behind = calls.behind

  quiet : All IsNone (moments_from c grows.more)
  quiet = subst (λ (l : List (Moment N S)). All IsNone l) (calls_are old new o calls) none

  run : IsControlRun c grows.more
  run = run_more old new behind grows

  names : (e : EndId) → name_of new.items e ≡ name_of old.items e
  names e =
      ap (λ (xs : List (Item N S)). name_of xs e) grows.items
      ∙ ap (name_in e) (flat_map-append named_in old.items grows.more)
      ∙ ap (λ (ns : List (PipeName N)). name_in e (flat_map named_in old.items ++ ns)) (names_none grows.more c run quiet)
      ∙ ap (name_in e) (append-nil (flat_map named_in old.items))

  pub sends_none : SendsNone old new
  sends_none = record {
    names = names;
    distinct = λ exact distinct is d e n of_d of_e. distinct is d e n (sym (names d) ∙ of_d) (sym (names e) ∙ of_e);
    coming = coming_before old new before behind grows (λ e n is.
        subst (λ (d : Control). away_in e n (pair d.rows e.pair.0) ≡ true) (sym before.control)
        (away_none e n grows.more c (subst Kept before.control (kept_now old before)) run quiet (subst (λ (d : Control). away_in e n (pair d.rows e.pair.0) ≡ true) (led_more old new behind grows) is)));
  }

pub calls_send_none : (G N S : Type 0) → CallsSendNone G N S
calls_send_none G N S old new o calls none = sends_none old new o calls none

pub sends_none_at_all : (G N S : Type 0) → SendsNoneAtAll G N S
sends_none_at_all G N S old new sends slot = record {
  coming = sends.coming slot;
  written = λ e coming. sends.names e;
  read = λ e coming. sends.names (other_end e);
}

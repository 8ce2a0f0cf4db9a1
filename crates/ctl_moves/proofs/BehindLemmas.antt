-- That a pair is made all the same where numbers were drawn behind it.
use Rattle.std.specs.Prelude.{◌≡◌, ◌<◌, ◌++◌, ◌∷◌, [], ℕ, Bool, true, false, List, if◌then◌else◌, length, slice_set, refl}
use Rattle.std.proofs.Common.{sym, ap, ◌∙◌, subst}
use Rattle.std.proofs.lemmas.List.{append_assoc, length-set, get_or_append_left, set-append_left}
use Rattle.zq_base.specs.Ends.{other_end}
use Rattle.zq_base.specs.declared.attached.Attached.{Attached}
use Rattle.zq_base.specs.declared.attached.Attached.TheVariants.{Yes, BadId as IsBadId, Second as IsSecond}
use Rattle.zq_base.specs.declared.ids.EndId.{EndId}
use Rattle.spec_control.specs.declared.end.EndCommands.{EndCommands}
use Rattle.spec_control.specs.declared.end.EndCommands.TheVariants.{Nothing, TermAndSeal, Ack, Settle, SettleAndAck}
use Rattle.spec_control.specs.declared.end.EndEvent.{EndEvent}
use Rattle.spec_control.specs.declared.end.EndEvent.TheVariants.{Asked}
use Rattle.spec_control.specs.declared.end.Reason.{Reason}
use Rattle.spec_control.specs.declared.end.Reason.TheVariants.{Closed, BadId, Second}
use Rattle.spec_control.specs.declared.letter.Word.{Word}
use Rattle.spec_control.specs.declared.letter.Word.TheVariants.{PipeTerm, PipeTermAck}
use Rattle.spec_control.specs.Place.{Place, Unmade, is_here}
use Rattle.spec_control.specs.PairPhase.{PairEvent, Opens, Happens}
use Rattle.spec_control.specs.Stage.{was_asked}
use Rattle.spec_control.specs.Rows.{PairRow, no_pair, obj, pair, pair_after, end_owner, end_place}
use Rattle.spec_control.specs.Control.{Control, ask, attach, commands_in, draws, greet, happens, moved, open_pair, owner_of, place_of, put, reason_in, tell_other, with_end}
use Rattle.ctl_moves.specs.Batch.{behind}

module _ (rs : List PairRow) where
  pub pair_behind : (c : Control) (k : ℕ) → k < length c.rows.pairs → pair (behind rs c).rows k ≡ pair c.rows k
  pair_behind c k less = get_or_append_left c.rows.pairs rs no_pair k less

  pub owner_behind : (c : Control) (e : EndId) → e.pair.0 < length c.rows.pairs → owner_of (behind rs c) e ≡ owner_of c e
  owner_behind c e less = ap (λ (p : PairRow). end_owner p e.a) (pair_behind c e.pair.0 less)

  pub place_behind : (c : Control) (e : EndId) → e.pair.0 < length c.rows.pairs → place_of (behind rs c) e ≡ place_of c e
  place_behind c e less = ap (λ (p : PairRow). end_place p e.a) (pair_behind c e.pair.0 less)

  with_pairs : Control → List PairRow → Control
  with_pairs c ps = record c { rows = record c.rows { pairs = ps } }

  moved_behind : (event : PairEvent) (e : EndId) (c : Control) → e.pair.0 < length c.rows.pairs → moved event e (behind rs c) ≡ behind rs (moved event e c)
  moved_behind event e c less =
      ap (λ (p : PairRow). record c { rows = record c.rows { pairs = slice_set (c.rows.pairs ++ rs) e.pair.0 (pair_after event e.a p) } }) (pair_behind c e.pair.0 less)
      ∙ ap (λ (ps : List PairRow). record c { rows = record c.rows { pairs = ps } }) (set-append_left c.rows.pairs rs e.pair.0 (pair_after event e.a (pair c.rows e.pair.0)) less)

  moved_within : (event : PairEvent) (e : EndId) (c : Control) (k : ℕ) → k < length c.rows.pairs → k < length (moved event e c).rows.pairs
  moved_within event e c k less = subst (λ (n : ℕ). k < n) (sym (length-set c.rows.pairs e.pair.0 (pair_after event e.a (pair c.rows e.pair.0)))) less

  attach_behind : (event : PairEvent) (e : EndId) (c : Control) → e.pair.0 < length c.rows.pairs → attach event e (behind rs c) ≡ behind rs (attach event e c)
  attach_behind event e c less = ap (λ (d : Control). record d { attached = c.attached ++ e ∷ [] }) (moved_behind event e c less)

  open_behind : (e : EndId) (bind : Word) (c : Control) → e.pair.0 < length c.rows.pairs → open_pair e bind (behind rs c) ≡ behind rs (open_pair e bind c)
  open_behind e bind c less =
      ap (λ (d : Control). put (owner_of d (other_end e)) bind d) (attach_behind Opens e c less)
      ∙ ap (λ (n : ℕ). put n bind (behind rs (attach Opens e c))) (owner_behind (attach Opens e c) (other_end e) (moved_within Opens e c e.pair.0 less))

  tell_behind : (commands : EndCommands) (e : EndId) (c : Control) → e.pair.0 < length c.rows.pairs → tell_other commands e (behind rs c) ≡ behind rs (tell_other commands e c)
  tell_behind Nothing e c less = refl
  tell_behind TermAndSeal e c less = ap (λ (n : ℕ). put n (PipeTerm (other_end e)) (behind rs c)) (owner_behind c (other_end e) less)
  tell_behind Ack e c less = ap (λ (n : ℕ). put n (PipeTermAck (other_end e)) (behind rs c)) (owner_behind c (other_end e) less)
  tell_behind Settle e c less = refl
  tell_behind SettleAndAck e c less = ap (λ (n : ℕ). put n (PipeTermAck (other_end e)) (behind rs c)) (owner_behind c (other_end e) less)

  happens_behind : (event : EndEvent) (e : EndId) (c : Control) → e.pair.0 < length c.rows.pairs → happens event e (behind rs c) ≡ behind rs (happens event e c)
  happens_behind event e c less =
      ap (λ (p : Place). tell_other (commands_in event p) e (record (moved (Happens event) e (behind rs c)) { reasons = with_end e (reason_in event p (c.reasons e)) c.reasons })) (place_behind c e less)
      ∙ ap (λ (d : Control). tell_other (commands_in event (place_of c e)) e (record d { reasons = with_end e (reason_in event (place_of c e) (c.reasons e)) c.reasons })) (moved_behind (Happens event) e c less)
      ∙ tell_behind (commands_in event (place_of c e)) e (record (moved (Happens event) e c) { reasons = with_end e (reason_in event (place_of c e) (c.reasons e)) c.reasons }) (moved_within (Happens event) e c e.pair.0 less)

  -- one or the other
  either : (b : Bool) (x y : Control) (xs ys : Control) → xs ≡ behind rs x → ys ≡ behind rs y → (if b then xs else ys) ≡ behind rs (if b then x else y)
  either true x y xs ys h k = h
  either false x y xs ys h k = k

  ask_behind : (reason : Reason) (e : EndId) (c : Control) → e.pair.0 < length c.rows.pairs → ask reason false e (behind rs c) ≡ behind rs (ask reason false e c)
  ask_behind reason e c less =
      ap (λ (p : Place). if is_here p then happens (Asked reason false) e (behind rs c) else behind rs c) (place_behind c e less)
      ∙ either (is_here (place_of c e)) (happens (Asked reason false) e c) c (happens (Asked reason false) e (behind rs c)) (behind rs c) (happens_behind (Asked reason false) e c less) refl

  greet_behind : (answer : Attached) (e : EndId) (c : Control) → e.pair.0 < length c.rows.pairs → greet answer e (behind rs c) ≡ behind rs (greet answer e c)
  greet_behind Yes e c less =
      ap (λ (n : ℕ). if was_asked (obj c.rows n).stage then ask Closed false e (behind rs c) else (if c.struck e then ask Closed false e (behind rs c) else behind rs c)) (owner_behind c e less)
      ∙ either (was_asked (obj c.rows (owner_of c e)).stage) (ask Closed false e c) (if c.struck e then ask Closed false e c else c) (ask Closed false e (behind rs c))
      (if c.struck e then ask Closed false e (behind rs c) else behind rs c) (ask_behind Closed e c less)
      (either (c.struck e) (ask Closed false e c) c (ask Closed false e (behind rs c)) (behind rs c) (ask_behind Closed e c less) refl)
  greet_behind IsBadId e c less = ask_behind BadId e c less
  greet_behind IsSecond e c less = ask_behind Second e c less

  -- a pair is made and its first end greeted
  pub made_behind : (answer : Attached) (e : EndId) (bind : Word) (c : Control) → e.pair.0 < length c.rows.pairs → greet answer e (open_pair e bind (behind rs c)) ≡ behind rs (greet answer e (open_pair e bind c))
  made_behind answer e bind c less = ap (greet answer e) (open_behind e bind c less) ∙ greet_behind answer e (open_pair e bind c) (moved_within Opens e c e.pair.0 less)

  -- the first of the numbers
  pub draw_behind : (a b : ℕ) (c : Control) → behind (record { a_owner = a; b_owner = b; a = Unmade; b = Unmade } ∷ rs) c ≡ behind rs (draws a b c)
  draw_behind a b c = ap (λ (ps : List PairRow). record c { rows = record c.rows { pairs = ps } }) (sym (append_assoc c.rows.pairs (record { a_owner = a; b_owner = b; a = Unmade; b = Unmade } ∷ []) rs))

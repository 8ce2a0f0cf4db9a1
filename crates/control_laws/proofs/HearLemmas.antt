-- Within an event: an end hears a command, meets a delimiter, or is asked.
use Rattle.std.specs.Prelude.{◌≡◌, ◌≢◌, ◌<◌, ℕ, Bool, true, false, not, List, map, length, if◌then◌else◌, refl}
use Rattle.std.proofs.Common.{arith, sym, ap, ◌∙◌}
use Rattle.std.proofs.lemmas.List.{get_or-set_same}
use Rattle.zq_base.specs.declared.ids.EndId.{EndId}
use Rattle.spec_control.specs.declared.end.EndState.TheVariants.{Active, DelimiterGot, WaitDelimiter, AckSent, AskedOnce, AskedTwice, Gone}
use Rattle.spec_control.specs.declared.end.EndEvent.{EndEvent}
use Rattle.spec_control.specs.declared.end.EndEvent.TheVariants.{Asked}
use Rattle.spec_control.specs.declared.end.EndCommands.{EndCommands}
use Rattle.spec_control.specs.declared.end.EndCommands.TheVariants.{Nothing, TermAndSeal, Ack, Settle, SettleAndAck}
use Rattle.spec_control.specs.declared.end.Reason.{Reason}
use Rattle.spec_control.specs.Place.{Place, Unmade, Away, At, EndWord, is_here, was_ended}
use Rattle.spec_control.specs.PairPhase.{Opens, Happens, place_after, may, mail_after}
use Rattle.spec_control.specs.Rows.{PairRow, no_pair, pair, end_place, end_owner, end_half, pair_after}
use Rattle.spec_control.specs.Control.{Control, with_end, end_of, place_of, owner_of, tell_other, commands_in, reason_in, moved, happens, ask}
use Rattle.control_laws.specs.Mail.{Mark, Link, end_mark, end_marks, queue, slot_of, Delivers, IsDelivered}
use Rattle.control_laws.specs.Kept.{AreListed, NamesAreOpen, KeptBut}
use Rattle.control_laws.proofs.ListLemmas.{never, is_here as here_is, is_elsewhere, written}
use Rattle.control_laws.proofs.RowLemmas.{pair_there}
use Rattle.control_laws.proofs.StepLemmas.{RowsKept, inv_of, rows_pair}
use Rattle.control_laws.proofs.PutLemmas.{PairQueues, rows_pair_queues}
use Rattle.control_laws.proofs.TellLemmas.{rows_of, kept_of, names_same, listed_after, told_mail}

kept_tell : (b : ℕ) (cmds : EndCommands) (e : EndId) (d : Control) → RowsKept b d.rows d.output_left → IsDelivered (tell_other cmds e d).rows (tell_other cmds e d).boxes →
    AreListed d.rows d.attached → NamesAreOpen d.rows d.names → KeptBut b (tell_other cmds e d)
kept_tell b Nothing e d r m l n = kept_of b d r m l n
kept_tell b TermAndSeal e d r m l n = kept_of b (tell_other TermAndSeal e d) r m l n
kept_tell b Ack e d r m l n = kept_of b (tell_other Ack e d) r m l n
kept_tell b Settle e d r m l n = kept_of b d r m l n
kept_tell b SettleAndAck e d r m l n = kept_of b (tell_other SettleAndAck e d) r m l n

-- what is kept of all but the mailboxes
pub record AllButMail (b : ℕ) (c : Control) : Type 0 where
  pub rows : RowsKept b c.rows c.output_left
  pub listed : AreListed c.rows c.attached
  pub names : NamesAreOpen c.rows c.names

pub but_mail : {b : ℕ} {c : Control} → KeptBut b c → AllButMail b c
but_mail k = record { rows = rows_of k; listed = k.listed; names = k.names }

not_opens : (event : EndEvent) → Happens event ≢ Opens
not_opens event e = Prim.grind arith

-- an event of an end, where the mailboxes have lost the command that it is, if it is one
pub happens_kept : (b : ℕ) (c : Control) (event : EndEvent) (e : EndId) (ends : Bool → List Mark) (queues : Link → List Mark) → AllButMail b c →
    may (Happens event) (end_half (pair c.rows e.pair.0) e.a) (end_half (pair c.rows e.pair.0) (not e.a)) ≡ true → owner_of c e ≡ b →
    PairQueues c.rows e.pair.0 ends queues → Delivers (slot_of c.rows) queues c.boxes →
    ends e.a ≡ map (end_mark (end_owner (pair c.rows e.pair.0) e.a)) (mail_after (Happens event) (end_half (pair c.rows e.pair.0) e.a).mail) →
    ends (not e.a) ≡ end_marks (pair c.rows e.pair.0) (not e.a) → KeptBut b (happens event e c)
happens_kept b c event e ends queues kept comes of q all own others =
    let d = record (moved (Happens event) e c) { reasons = with_end e (reason_in event (place_of c e) (c.reasons e)) c.reasons } in
    kept_tell b (commands_in event (place_of c e)) e d
    (rows_pair b c.rows c.output_left e.pair.0 e.a (Happens event) kept.rows (not_opens event) comes of)
    (told_mail c.rows e event ((inv_of kept.rows).phases e.pair.0) comes (commands_in event (place_of c e)) ends queues d refl refl own others q all)
    (listed_after c.rows e.pair.0 e.a event c.attached (pair_there c.rows e.pair.0 e.a (Happens event) comes) kept.listed)
    (names_same c.rows d.rows c.names (λ i u. record { socket = u.socket; unasked = u.unasked }) kept.names)

-- an event that is no command
pub happens_alone : (b : ℕ) (c : Control) (event : EndEvent) (e : EndId) → KeptBut b c →
    may (Happens event) (end_half (pair c.rows e.pair.0) e.a) (end_half (pair c.rows e.pair.0) (not e.a)) ≡ true → owner_of c e ≡ b →
    ((ws : List EndWord) → mail_after (Happens event) ws ≡ ws) → KeptBut b (happens event e c)
happens_alone b c event e kept comes of alone =
    happens_kept b c event e (end_marks (pair c.rows e.pair.0)) (queue c.rows) (but_mail kept) comes of (rows_pair_queues c.rows e.pair.0) kept.delivered
    (ap (map (end_mark (end_owner (pair c.rows e.pair.0) e.a))) (sym (alone (end_half (pair c.rows e.pair.0) e.a).mail))) refl

pub ask_kept : (b : ℕ) (why : Reason) (delay : Bool) (e : EndId) (c : Control) → KeptBut b c → owner_of c e ≡ b → KeptBut b (ask why delay e c)
ask_kept b why delay e c kept of = by (is_here (place_of c e)) refl
  where
    by : (x : Bool) → is_here (place_of c e) ≡ x → KeptBut b (if x then happens (Asked why delay) e c else c)
    by true h = happens_alone b c (Asked why delay) e kept h of (λ ws. refl)
    by false h = kept

-- where an end is behind an event of an end
told_pairs : (cmds : EndCommands) (e : EndId) (d : Control) (k : ℕ) → pair (tell_other cmds e d).rows k ≡ pair d.rows k
told_pairs Nothing e d k = refl
told_pairs TermAndSeal e d k = refl
told_pairs Ack e d k = refl
told_pairs Settle e d k = refl
told_pairs SettleAndAck e d k = refl

told_objects : (cmds : EndCommands) (e : EndId) (d : Control) → (tell_other cmds e d).rows.objects ≡ d.rows.objects
told_objects Nothing e d = refl
told_objects TermAndSeal e d = refl
told_objects Ack e d = refl
told_objects Settle e d = refl
told_objects SettleAndAck e d = refl

told_attached : (cmds : EndCommands) (e : EndId) (d : Control) → ((tell_other cmds e d).attached ≡ d.attached) × ((tell_other cmds e d).output_left ≡ d.output_left)
told_attached Nothing e d = (refl, refl)
told_attached TermAndSeal e d = (refl, refl)
told_attached Ack e d = (refl, refl)
told_attached Settle e d = (refl, refl)
told_attached SettleAndAck e d = (refl, refl)

-- what an event of an end leaves: other ends where they were, all owners, all objects
pub record EndMoved (event : EndEvent) (e : EndId) (old new : Control) : Type 0 where
  pub here : place_of new e ≡ place_after (Happens event) (place_of old e)
  pub elsewhere : (k : ℕ) (a : Bool) → (end_of k a ≢ e) → place_of new (end_of k a) ≡ place_of old (end_of k a)
  pub owners : (k : ℕ) (a : Bool) → owner_of new (end_of k a) ≡ owner_of old (end_of k a)
  pub objects : new.rows.objects ≡ old.rows.objects
  pub attached : new.attached ≡ old.attached
  pub output : new.output_left ≡ old.output_left

module _ (c : Control) (event : EndEvent) (e : EndId) (there : e.pair.0 < length c.rows.pairs) where
  abbrev cmds : EndCommands
  cmds = commands_in event (place_of c e)

  abbrev d : Control
  d = record (moved (Happens event) e c) { reasons = with_end e (reason_in event (place_of c e) (c.reasons e)) c.reasons }

  abbrev old : PairRow
  old = pair c.rows e.pair.0

  abbrev now : PairRow
  now = pair_after (Happens event) e.a old

  at_a : (y : Bool) → end_place (pair_after (Happens event) y old) y ≡ place_after (Happens event) (end_place old y)
  at_a true = refl
  at_a false = refl

  place_here : end_place (pair d.rows e.pair.0) e.a ≡ place_after (Happens event) (place_of c e)
  place_here =
      elim (written c.rows.pairs now no_pair e.pair.0 e.pair.0 there) [
        | here_is here same ↦ ap (λ (p : PairRow). end_place p e.a) same ∙ at_a e.a
        | is_elsewhere same ↦ ap (λ (p : PairRow). end_place p e.a) (get_or-set_same c.rows.pairs e.pair.0 now no_pair there) ∙ at_a e.a
      ]

  side : (k : ℕ) (y x : Bool) → k ≡ e.pair.0 → e.a ≡ y → (end_of k x ≢ e) → end_place (pair_after (Happens event) y old) x ≡ end_place old x
  side k true true i j n = absurd (n (same_end k true i j))
    where
      same_end : (k : ℕ) (x : Bool) → k ≡ e.pair.0 → e.a ≡ x → end_of k x ≡ e
      same_end k x i j = ap (λ (n : ℕ). end_of n x) i ∙ ap (end_of e.pair.0) (sym j)
  side k true false i j n = refl
  side k false true i j n = refl
  side k false false i j n = absurd (n (same_end k false i j))
    where
      same_end : (k : ℕ) (x : Bool) → k ≡ e.pair.0 → e.a ≡ x → end_of k x ≡ e
      same_end k x i j = ap (λ (n : ℕ). end_of n x) i ∙ ap (end_of e.pair.0) (sym j)

  place_else : (k : ℕ) (x : Bool) → (end_of k x ≢ e) → end_place (pair d.rows k) x ≡ end_place (pair c.rows k) x
  place_else k x other =
      elim (written c.rows.pairs now no_pair e.pair.0 k there) [
        | here_is here same ↦ ap (λ (p : PairRow). end_place p x) same ∙ side k e.a x here refl other ∙ ap (λ (j : ℕ). end_place (pair c.rows j) x) (sym here)
        | is_elsewhere same ↦ ap (λ (p : PairRow). end_place p x) same
      ]

  owner_side : (y x : Bool) → end_owner (pair_after (Happens event) y old) x ≡ end_owner old x
  owner_side true true = refl
  owner_side true false = refl
  owner_side false true = refl
  owner_side false false = refl

  owner_same : (k : ℕ) (x : Bool) → end_owner (pair d.rows k) x ≡ end_owner (pair c.rows k) x
  owner_same k x =
      elim (written c.rows.pairs now no_pair e.pair.0 k there) [
        | here_is here same ↦ ap (λ (p : PairRow). end_owner p x) same ∙ owner_side e.a x ∙ ap (λ (j : ℕ). end_owner (pair c.rows j) x) (sym here)
        | is_elsewhere same ↦ ap (λ (p : PairRow). end_owner p x) same
      ]

  pub end_moved : EndMoved event e c (happens event e c)
  end_moved = record {
    here = ap (λ (p : PairRow). end_place p e.a) (told_pairs cmds e d e.pair.0) ∙ place_here;
    elsewhere = λ k a other. ap (λ (p : PairRow). end_place p a) (told_pairs cmds e d k) ∙ place_else k a other;
    owners = λ k a. ap (λ (p : PairRow). end_owner p a) (told_pairs cmds e d k) ∙ owner_same k a;
    objects = told_objects cmds e d;
    attached = (told_attached cmds e d).0;
    output = (told_attached cmds e d).1;
  }

-- an end that is there and was asked is where an end of an object that was asked may be
pub asked_ended : (why : Reason) (delay on : Bool) (place : Place) → (delay ≡ true → on ≡ true) → is_here place ≡ true → was_ended on (place_after (Happens (Asked why delay)) place) ≡ true
asked_ended why delay on Unmade d h = refl
asked_ended why delay on Away d h = refl
asked_ended why delay on (At Active) d h = refl
asked_ended why delay on (At DelimiterGot) d h = refl
asked_ended why true on (At WaitDelimiter) d h = d refl
asked_ended why false on (At WaitDelimiter) d h = refl
asked_ended why delay on (At AckSent) d h = refl
asked_ended why delay on (At AskedOnce) d h = refl
asked_ended why delay on (At AskedTwice) d h = refl
asked_ended why delay on (At Gone) d h = absurd (never h)

pub absent_ended : (on : Bool) (place : Place) → is_here place ≡ false → was_ended on place ≡ true
absent_ended on Unmade h = refl
absent_ended on Away h = refl
absent_ended on (At Active) h = absurd (never (sym h))
absent_ended on (At DelimiterGot) h = absurd (never (sym h))
absent_ended on (At WaitDelimiter) h = absurd (never (sym h))
absent_ended on (At AckSent) h = absurd (never (sym h))
absent_ended on (At AskedOnce) h = absurd (never (sym h))
absent_ended on (At AskedTwice) h = absurd (never (sym h))
absent_ended on (At Gone) h = refl

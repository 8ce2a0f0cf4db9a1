-- Within an event: children are told, ends are asked and hear.
use Rattle.std.specs.Prelude.{◌≡◌, ◌<◌, ◌&&◌, ℕ, zero, suc, Bool, true, false, not, cond, List, [], ◌∷◌, ◌++◌, map, Option, Some, None, length, if◌then◌else◌, refl}
use Rattle.std.specs.List.{list_any}
use Rattle.std.proofs.Common.{sym, ap, ◌∙◌, subst}
use Rattle.std.proofs.lemmas.Bool.{eqb-true}
use Rattle.std.proofs.lemmas.List.{get_or-set_same}
use Rattle.zq_base.specs.Ends.{other_end}
use Rattle.zq_base.specs.declared.ids.EndId.{EndId}
use Rattle.spec_control.specs.declared.end.EndState.TheVariants.{Active, DelimiterGot, WaitDelimiter, AckSent, AskedOnce, AskedTwice, Gone}
use Rattle.spec_control.specs.declared.end.EndEvent.{EndEvent}
use Rattle.spec_control.specs.declared.end.EndEvent.TheVariants.{Asked, TermCame, DelimiterSeen, AckCame}
use Rattle.spec_control.specs.declared.end.EndCommands.{EndCommands}
use Rattle.spec_control.specs.declared.end.EndCommands.TheVariants.{Nothing, TermAndSeal, Ack, Settle, SettleAndAck}
use Rattle.spec_control.specs.declared.letter.Letter.{Letter}
use Rattle.spec_control.specs.declared.letter.Word.{Word}
use Rattle.spec_control.specs.declared.letter.Word.TheVariants.{Term, PipeTerm, PipeTermAck}
use Rattle.spec_control.specs.declared.stage.Stage.{Stage}
use Rattle.spec_control.specs.declared.stage.Stage.TheVariants.{Alive, Told, Ending, Finished, Cleared}
use Rattle.spec_control.specs.Register.{Register}
use Rattle.spec_control.specs.Stage.{is_alive, is_told, is_finished, was_asked, is_coming}
use Rattle.spec_control.specs.Place.{Place, Unmade, Away, At, EndWord, Terms, Acks, Half, is_here}
use Rattle.spec_control.specs.PairPhase.{Happens, place_after, may, mail_after, end_words, words_at}
use Rattle.spec_control.specs.Row.{Row, nobody, is_socket, is_unowned, LinkEvent, OwnComes, PlugComes, IsTold, TermComes, AsksOver, RequestComes, ReapComes, AckComes, RootAsked, StopPut, StopComes, AsksForLink, AsksForLinger, link_may, link_after}
use Rattle.spec_control.specs.Rows.{PairRow, Rows, no_pair, obj, pair, with_object, with_pair, end_place, end_owner, end_half, pair_after, IsInPhase, PairMoves, is_owner}
use Rattle.spec_control.specs.Control.{Control, with_value, is_end, id, end_of, owner_of, put, link, tell_where, tell_children, tell_other, commands_in}
use Rattle.spec_control.specs.After.{owner_or_root}
use Rattle.control_laws.specs.Prompt.{IsOf}
use Rattle.control_laws.specs.Mail.{Mark, TermSign, Link, EndLink, is_link, marks, end_mark, end_marks, slot_of, Delivers, IsDelivered}
use Rattle.control_laws.specs.Kept.{AreListed, IsUnasked, NamesAreOpen, KeptBut}
use Rattle.control_laws.proofs.ListLemmas.{never, left, right, is_here as here_is, is_elsewhere, written}
use Rattle.control_laws.proofs.RowLemmas.{pair_there}
use Rattle.control_laws.proofs.FrontLemmas.{up_list, down_list}
use Rattle.control_laws.proofs.StepLemmas.{RowsKept, inv_of, link_there, same_kind, same_owner, same_slot, after_owner, moves_after, rows_link}
use Rattle.control_laws.proofs.PutLemmas.{rows_queues, StaysThere, object_put_down, PairQueues, one_now, pair_now, pair_put}

pub rows_of : {b : ℕ} {c : Control} → KeptBut b c → RowsKept b c.rows c.output_left
rows_of k = record { reached = k.reached; shape = k.shape; prompt = k.prompt; pairs = k.pairs }

pub kept_of : (b : ℕ) (c : Control) → RowsKept b c.rows c.output_left → IsDelivered c.rows c.boxes → AreListed c.rows c.attached → NamesAreOpen c.rows c.names → KeptBut b c
kept_of b c r d l n = record { reached = r.reached; shape = r.shape; prompt = r.prompt; pairs = r.pairs; delivered = d; listed = l; names = n }

-- ---- who holds names

-- an event that asks nobody leaves sockets unasked
abbrev pub asks_nobody : LinkEvent → Bool
asks_nobody OwnComes = true
asks_nobody PlugComes = true
asks_nobody IsTold = true
asks_nobody TermComes = false
asks_nobody AsksOver = true
asks_nobody RequestComes = true
asks_nobody ReapComes = true
asks_nobody AckComes = true
asks_nobody RootAsked = false
asks_nobody StopPut = true
asks_nobody StopComes = true
asks_nobody AsksForLink = true
asks_nobody AsksForLinger = true

finished_asked : (s : Stage) → is_finished s ≡ true → was_asked s ≡ false → ⊥
finished_asked Finished h k = never (sym k)
finished_asked Alive h k = never h
finished_asked Told h k = never h
finished_asked Ending h k = never h
finished_asked Cleared h k = never h

pub unasked_after : (e : LinkEvent) (o : Row) → asks_nobody e ≡ true → link_may e o ≡ true → was_asked o.stage ≡ false → was_asked (link_after e o).stage ≡ false
unasked_after OwnComes o n may h = h
unasked_after PlugComes o n may h = h
unasked_after IsTold o n may h = refl
unasked_after TermComes o n may h = absurd (never n)
unasked_after AsksOver o n may h = h
unasked_after RequestComes o n may h = h
unasked_after ReapComes o n may h = refl
unasked_after AckComes o n may h = absurd (finished_asked o.stage (left _ _ may) h)
unasked_after RootAsked o n may h = absurd (never n)
unasked_after StopPut o n may h = h
unasked_after StopComes o n may h = h
unasked_after AsksForLink o n may h = h
unasked_after AsksForLinger o n may h = h

pub names_same : (s t : Rows) (names : Register) → ((i : ℕ) → IsUnasked s i → IsUnasked t i) → NamesAreOpen s names → NamesAreOpen t names
names_same s t names keeps n = record { holders = λ at binding is. keeps binding.holder.0 (n.holders at binding is); waiters = λ k d within. keeps _ (n.waiters k d within) }

pub unasked_link : (s : Rows) (c : ℕ) (e : LinkEvent) → c < length s.objects → asks_nobody e ≡ true → link_may e (obj s c) ≡ true → (i : ℕ) → IsUnasked s i → IsUnasked (with_object c (link_after e (obj s c)) s) i
unasked_link s c e there n may i u =
    elim (written s.objects (link_after e (obj s c)) nobody c i there) [
      | here_is here same ↦ record {
        socket = ap (λ (o : Row). is_socket o.kind) same ∙ ap is_socket (same_kind e (obj s c)) ∙ ap (λ (j : ℕ). is_socket (obj s j).kind) (sym here) ∙ u.socket;
        unasked = ap (λ (o : Row). was_asked o.stage) same ∙ unasked_after e (obj s c) n may (subst (λ (j : ℕ). was_asked (obj s j).stage ≡ false) here u.unasked);
      }
      | is_elsewhere same ↦ record { socket = ap (λ (o : Row). is_socket o.kind) same ∙ u.socket; unasked = ap (λ (o : Row). was_asked o.stage) same ∙ u.unasked }
    ]

-- a row is written by an event that asks nobody, and the mailboxes are these
pub link_kept : (b : ℕ) (c : Control) (e : LinkEvent) (i : ℕ) (boxes : ℕ → List Letter) → KeptBut b c → link_may e (obj c.rows i) ≡ true → IsOf e i (obj c.rows i) b → asks_nobody e ≡ true →
    IsDelivered (with_object i (link_after e (obj c.rows i)) c.rows) boxes → KeptBut b (record (link e i c) { boxes = boxes })
link_kept b c e i boxes kept may of n mail =
    kept_of b (record (link e i c) { boxes = boxes }) (rows_link b c.rows c.output_left i e (rows_of kept) may of) mail kept.listed
    (names_same c.rows _ c.names (unasked_link c.rows i e (link_there c.rows i e (inv_of (rows_of kept)) may) n may) kept.names)

pub stays_there : (s : Rows) (c : ℕ) (e : LinkEvent) → c < length s.objects → StaysThere s c (link_after e (obj s c))
stays_there s c e there = record { there = there; owner = same_owner e (obj s c); slot = same_slot e (obj s c) }

-- ---- a child is told
pub told_down : (c : ℕ) (p t : Bool) (s : Stage) → is_alive s ≡ true → down_list c p t (is_told s) ++ record { to = c; sign = TermSign } ∷ [] ≡ down_list c p t true
told_down c true true Alive h = refl
told_down c true false Alive h = refl
told_down c false true Alive h = refl
told_down c false false Alive h = refl
told_down c p t Told h = absurd (never h)
told_down c p t Ending h = absurd (never h)
told_down c p t Finished h = absurd (never h)
told_down c p t Cleared h = absurd (never h)

pub told_up : (k : Bool) (w : ℕ) (n c u : Bool) (s : Stage) → is_alive s ≡ true → up_list k w n c (is_finished s && u) ≡ up_list k w n c false
told_up k w n c u Alive h = refl
told_up k w n c u Told h = absurd (never h)
told_up k w n c u Ending h = absurd (never h)
told_up k w n c u Finished h = absurd (never h)
told_up k w n c u Cleared h = absurd (never h)

pub tell_kept : (b : ℕ) (c : Control) (child : ℕ) → KeptBut b c → link_may IsTold (obj c.rows child) ≡ true → (obj c.rows child).owner ≡ Some b → KeptBut b (put child Term (link IsTold child c))
tell_kept b c child kept may of =
    let o = obj c.rows child in
    let alive = left _ _ may in
    let there = link_there c.rows child IsTold (inv_of (rows_of kept)) may in
    link_kept b c IsTold child _ kept may of refl
    (object_put_down c.rows child (link_after IsTold o) _ _ _ c.boxes (record { to = id child; word = Term }) (record { to = child; sign = TermSign }) (stays_there c.rows child IsTold there)
    (rows_queues c.rows child) kept.delivered (λ link. refl)
    (told_up (is_socket o.kind) (owner_or_root o.owner) o.noted (is_coming o.request) (not (is_unowned o.owner)) o.stage alive)
    (told_down child o.plugged (is_coming o.stop) o.stage alive))

pub tell_where_kept : (b : ℕ) (wanted : Bool) (child : ℕ) (c : Control) → KeptBut b c → (wanted ≡ true → (obj c.rows child).owner ≡ Some b) → KeptBut b (tell_where wanted child c)
tell_where_kept b wanted child c kept of = by (wanted && link_may IsTold (obj c.rows child)) refl
  where
    by : (x : Bool) → (wanted && link_may IsTold (obj c.rows child)) ≡ x → KeptBut b (if x then put child Term (link IsTold child c) else c)
    by true e = tell_kept b c child kept (right wanted _ e) (of (left wanted _ e))
    by false e = kept

pub tell_children_kept : (b n : ℕ) (c : Control) → KeptBut b c → KeptBut b (tell_children n b c)
tell_children_kept b zero c kept = kept
tell_children_kept b (suc n) c kept =
    let before = tell_children n b c in
    tell_where_kept b (is_owner b (obj before.rows n).owner && (obj before.rows n).noted) n before (tell_children_kept b n c kept) (λ e. owned_by (obj before.rows n).owner (left _ _ e))
  where
    owned_by : (w : Option ℕ) → is_owner b w ≡ true → w ≡ Some b
    owned_by None e = absurd (never e)
    owned_by (Some w) e = ap (λ (i : ℕ). Some i) (eqb-true w b e)

-- ---- an end hears, or is asked

-- an event of the table leaves nobody there who was not
stays_here : (event : EndEvent) (place : Place) → is_here (place_after (Happens event) place) ≡ true → is_here place ≡ true
stays_here event Unmade h = absurd (never h)
stays_here event Away h = absurd (never h)
stays_here event (At Active) h = refl
stays_here event (At DelimiterGot) h = refl
stays_here event (At WaitDelimiter) h = refl
stays_here event (At AckSent) h = refl
stays_here event (At AskedOnce) h = refl
stays_here event (At AskedTwice) h = refl
stays_here (Asked why delay) (At Gone) h = absurd (never h)
stays_here TermCame (At Gone) h = absurd (never h)
stays_here DelimiterSeen (At Gone) h = absurd (never h)
stays_here AckCame (At Gone) h = absurd (never h)

pub listed_after : (s : Rows) (k : ℕ) (a : Bool) (event : EndEvent) (attached : List EndId) → k < length s.pairs → AreListed s attached → AreListed (with_pair k (pair_after (Happens event) a (pair s k)) s) attached
listed_after s k a event attached there listed j x h =
    elim (written s.pairs (pair_after (Happens event) a (pair s k)) no_pair k j there) [
      | here_is here same ↦ subst (λ (i : ℕ). list_any (is_end (end_of i x)) attached ≡ true) (sym here) (listed k x (was a x (sym (ap (λ (p : PairRow). is_here (end_place p x)) same) ∙ h)))
      | is_elsewhere same ↦ listed j x (sym (ap (λ (p : PairRow). is_here (end_place p x)) same) ∙ h)
    ]
  where
    was : (y x : Bool) → is_here (end_place (pair_after (Happens event) y (pair s k)) x) ≡ true → is_here (end_place (pair s k) x) ≡ true
    was true true g = stays_here event _ g
    was true false g = g
    was false true g = g
    was false false g = stays_here event _ g

-- what an event puts is what its commands tell
words_told : (event : EndEvent) (place : Place) → words_at (Happens event) place ≡ end_words (commands_in event place)
words_told event Unmade = refl
words_told event Away = refl
words_told event (At state) = refl

pub map_more : (f : EndWord → Mark) (xs : List EndWord) (w : EndWord) → map f xs ++ f w ∷ [] ≡ map f (xs ++ w ∷ [])
map_more f [] w = refl
map_more f (x ∷ xs) w = ap (λ (l : List Mark). f x ∷ l) (map_more f xs w)

nil_right : {X : Type 0} (xs : List X) → xs ++ [] ≡ xs
nil_right [] = refl
nil_right (x ∷ xs) = ap (λ (l : List _). x ∷ l) (nil_right xs)

pub same_rows : (cmds : EndCommands) (e : EndId) (d : Control) → (tell_other cmds e d).rows ≡ d.rows
same_rows Nothing e d = refl
same_rows TermAndSeal e d = refl
same_rows Ack e d = refl
same_rows Settle e d = refl
same_rows SettleAndAck e d = refl

-- the end's own marks behind its event, and the other end's with what it is told
module _ (s : Rows) (e : EndId) (event : EndEvent) (phase : IsInPhase (pair s e.pair.0)) (comes : may (Happens event) (end_half (pair s e.pair.0) e.a) (end_half (pair s e.pair.0) (not e.a)) ≡ true) where
  abbrev old : PairRow
  old = pair s e.pair.0

  abbrev now : PairRow
  now = pair_after (Happens event) e.a old

  moved_so : PairMoves (Happens event) e.a old now
  moved_so = moves_after (Happens event) e.a old phase comes

  owners : (x : Bool) → end_owner now x ≡ end_owner old x
  owners x = after_owner (Happens event) e.a x old

  mine : end_marks now e.a ≡ map (end_mark (end_owner old e.a)) (mail_after (Happens event) (end_half old e.a).mail)
  mine = ap (λ (w : ℕ). map (end_mark w) (end_half now e.a).mail) (owners e.a) ∙ ap (λ (h : Half). map (end_mark (end_owner old e.a)) h.mail) moved_so.mine

  theirs : end_marks now (not e.a) ≡ map (end_mark (end_owner old (not e.a))) ((end_half old (not e.a)).mail ++ end_words (commands_in event (end_place old e.a)))
  theirs =
      ap (λ (w : ℕ). map (end_mark w) (end_half now (not e.a)).mail) (owners (not e.a))
      ∙ ap (λ (h : Half). map (end_mark (end_owner old (not e.a))) h.mail) moved_so.theirs
      ∙ ap (λ (ws : List EndWord). map (end_mark (end_owner old (not e.a))) ((end_half old (not e.a)).mail ++ ws)) (words_told event (end_place old e.a))

  -- by sides
  both_sides : (P : Bool → Type 0) → P e.a → P (not e.a) → (x : Bool) → P x
  both_sides P p q x = by e.a x p q
    where
      by : (y x : Bool) → P y → P (not y) → P x
      by true true p q = p
      by true false p q = q
      by false true p q = q
      by false false p q = p

  here_now : (y : Bool) (q : List Mark) (f : Bool → List Mark) → (one_now y q f y ≡ q) × (one_now y q f (not y) ≡ f (not y)) × (one_now (not y) q f y ≡ f y) × (one_now (not y) q f (not y) ≡ q)
  here_now true q f = (refl, refl, refl, refl)
  here_now false q f = (refl, refl, refl, refl)

  -- where the end's own marks were taken, or none were to be
  pub told_mail : (cmds : EndCommands) (ends : Bool → List Mark) (queues : Link → List Mark) (d : Control) → d.rows ≡ with_pair e.pair.0 now s → commands_in event (end_place old e.a) ≡ cmds →
      ends e.a ≡ map (end_mark (end_owner old e.a)) (mail_after (Happens event) (end_half old e.a).mail) → ends (not e.a) ≡ end_marks old (not e.a) →
      PairQueues s e.pair.0 ends queues → Delivers (slot_of s) queues d.boxes → IsDelivered (tell_other cmds e d).rows (tell_other cmds e d).boxes
  told_mail cmds ends queues d same told own others q all = by cmds told
    where
      there : e.pair.0 < length s.pairs
      there = pair_there s e.pair.0 e.a (Happens event) comes

      silent : end_words (commands_in event (end_place old e.a)) ≡ [] → IsDelivered d.rows d.boxes
      silent none =
          subst (λ (r : Rows). IsDelivered r d.boxes) (sym same)
          (pair_now s e.pair.0 now ends queues d.boxes there owners q all
          (both_sides (λ x. ends x ≡ end_marks now x) (own ∙ sym mine)
          (others ∙ sym (theirs ∙ ap (λ (ws : List EndWord). map (end_mark (end_owner old (not e.a))) ((end_half old (not e.a)).mail ++ ws)) none ∙ ap (map (end_mark (end_owner old (not e.a)))) (nil_right _)))))

      tells : (word : EndWord) (l : Letter) → end_words (commands_in event (end_place old e.a)) ≡ word ∷ [] →
          ((link : Link) → marks link l ≡ cond (is_link link (EndLink e.pair.0 (not e.a))) (end_mark (end_owner old (not e.a)) word ∷ []) []) →
          let slot = slot_of (with_pair e.pair.0 now s) (EndLink e.pair.0 (not e.a)) in IsDelivered (with_pair e.pair.0 now s) (with_value slot (d.boxes slot ++ l ∷ []) d.boxes)
      tells word l one on =
          let n = here_now e.a (queues (EndLink e.pair.0 (not e.a)) ++ end_mark (end_owner old (not e.a)) word ∷ []) ends in
          pair_put s e.pair.0 now (not e.a) ends queues d.boxes l (end_mark (end_owner old (not e.a)) word) there owners q all on
          (both_sides (λ x. one_now (not e.a) (queues (EndLink e.pair.0 (not e.a)) ++ end_mark (end_owner old (not e.a)) word ∷ []) ends x ≡ end_marks now x)
          (n.2 ∙ own ∙ sym mine)
          (n.3 ∙ ap (λ (l : List Mark). l ++ end_mark (end_owner old (not e.a)) word ∷ []) (q.to_end (not e.a) ∙ others)
          ∙ map_more (end_mark (end_owner old (not e.a))) (end_half old (not e.a)).mail word
          ∙ sym (theirs ∙ ap (λ (ws : List EndWord). map (end_mark (end_owner old (not e.a))) ((end_half old (not e.a)).mail ++ ws)) one)))

      -- a letter is put for the other end's owner
      puts : (word : EndWord) (w : Word) → end_words (commands_in event (end_place old e.a)) ≡ word ∷ [] →
          ((to : ℕ) (link : Link) → marks link (record { to = id to; word = w }) ≡ cond (is_link link (EndLink e.pair.0 (not e.a))) (end_mark to word ∷ []) []) →
          IsDelivered (put (owner_of d (other_end e)) w d).rows (put (owner_of d (other_end e)) w d).boxes
      puts word w one on =
          subst (λ (r : Rows). let to = end_owner (pair r e.pair.0) (not e.a) in IsDelivered r (with_value (obj r to).slot (d.boxes (obj r to).slot ++ record { to = id to; word = w } ∷ []) d.boxes)) (sym same)
          (subst (λ (to : ℕ). let slot = slot_of (with_pair e.pair.0 now s) (EndLink e.pair.0 (not e.a)) in IsDelivered (with_pair e.pair.0 now s) (with_value slot (d.boxes slot ++ record { to = id to; word = w } ∷ []) d.boxes)) (sym owner_now)
          (tells word (record { to = id (end_owner old (not e.a)); word = w }) one (on (end_owner old (not e.a)))))
        where
          owner_now : end_owner (pair (with_pair e.pair.0 now s) e.pair.0) (not e.a) ≡ end_owner old (not e.a)
          owner_now = ap (λ (p : PairRow). end_owner p (not e.a)) (get_or-set_same s.pairs e.pair.0 now no_pair there) ∙ owners (not e.a)

      by : (cmds : EndCommands) → commands_in event (end_place old e.a) ≡ cmds → IsDelivered (tell_other cmds e d).rows (tell_other cmds e d).boxes
      by Nothing h = silent (ap end_words h)
      by Settle h = silent (ap end_words h)
      by TermAndSeal h = puts Terms (PipeTerm (other_end e)) (ap end_words h) (λ to link. refl)
      by Ack h = puts Acks (PipeTermAck (other_end e)) (ap end_words h) (λ to link. refl)
      by SettleAndAck h = puts Acks (PipeTermAck (other_end e)) (ap end_words h) (λ to link. refl)

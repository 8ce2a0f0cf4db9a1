-- That what is kept goes on standing for a control state, as commands come and go.
use Rattle.std.specs.Prelude.{◌≡◌, ◌<◌, ◌⊎◌, ◌++◌, ◌∷◌, [], ℕ, Bool, List, Option, Some, None, if◌then◌else◌, map, length, take, refl, ◌+◌, ◌-◌, IfSome, OnSome}
use Rattle.std.proofs.Common.{arith, sym, ap, ◌∙◌, subst, inl, inr}
use Rattle.std.proofs.lemmas.Bool.{cases_eq, eq-eqb, ne_eqb}
use Rattle.std.proofs.lemmas.List.{take-append-le, take_all, length-set, length_push, get_or-set_same, get_or-set_other, set-set, set-get_or}
use Rattle.mailbox.specs.Mail.{Mail, no_mail, with_spare, with_put_back}
use Rattle.spec_control.specs.declared.letter.Letter.{Letter}
use Rattle.spec_control.specs.PairPhase.{behind_first}
use Rattle.spec_control.specs.After.{without_front}
use Rattle.spec_control.specs.Control.{Control, with_value}
use Rattle.ctl_state.specs.declared.command.Command.{Command}
use Rattle.ctl_state.specs.declared.state.State.{State}
use Rattle.ctl_state.specs.Boxes.{mail_at, with_mail, letters, Takes, AreIn}
use Rattle.ctl_state.specs.Parts.{on_boxes}
use Rattle.ctl_state.specs.Stands.{Stands, slot_more}
use Rattle.ctl_state.proofs.ReadLemmas.{read_kept, pushed_same}

module _ {L : Type 0} where
  -- more room, and the same letters
  pub room_in : (boxes : List (Mail (Command L))) (f : ℕ → List Letter) (k n : ℕ) → AreIn boxes f → AreIn (with_mail k (with_spare n (mail_at boxes k)) boxes) f
  room_in boxes f k n h = record { each = λ j. read_kept letters boxes k j (with_spare n (mail_at boxes k)) no_mail refl ∙ h.each j }

  pub more_in : (boxes : List (Mail (Command L))) (f : ℕ → List Letter) (room : ℕ) → AreIn boxes f → AreIn (boxes ++ with_spare room no_mail ∷ []) f
  more_in boxes f room h = record { each = λ j. pushed_same letters boxes (with_spare room no_mail) no_mail j refl ∙ h.each j }

  -- the letters of the mailbox of which the oldest was taken
  pub front_letters : (old new : List (Mail (Command L))) (f : ℕ → List Letter) (k : ℕ) (command : Command L) → Takes k command old new → AreIn old f →
      f k ≡ command.letter ∷ letters (mail_at new k)
  front_letters old new f k command t h = sym (h.each k) ∙ ap (map (λ (x : Command L). x.letter)) t.front

  pub front_is : (old new : List (Mail (Command L))) (f : ℕ → List Letter) (k : ℕ) (command : Command L) → Takes k command old new → AreIn old f →
      f k ≡ command.letter ∷ behind_first (f k)
  front_is old new f k command t h =
      front_letters old new f k command t h
      ∙ ap (λ (ls : List Letter). command.letter ∷ behind_first ls) (sym (front_letters old new f k command t h))

  taken_in : (old new : List (Mail (Command L))) (f : ℕ → List Letter) (k : ℕ) (command : Command L) → Takes k command old new → AreIn old f →
      AreIn new (with_value k (behind_first (f k)) f)
  taken_in old new f k command t h = record { each = λ j. at j (cases_eq j k) }
    where
      at : (j : ℕ) → (j ≡ k) ⊎ (j ≡ k → ⊥) → letters (mail_at new j) ≡ with_value k (behind_first (f k)) f j
      at j (inl same) =
          ap (λ (n : ℕ). letters (mail_at new n)) same ∙ sym (ap behind_first (front_letters old new f k command t h))
          ∙ sym (ap (λ (b : Bool). if b then behind_first (f k) else f j) (eq-eqb j k same))
      at j (inr other) = ap letters (t.others j other) ∙ h.each j ∙ sym (ap (λ (b : Bool). if b then behind_first (f k) else f j) (ne_eqb j k other))

  back_in : (boxes : List (Mail (Command L))) (f : ℕ → List Letter) (k : ℕ) (command : Command L) → k < length boxes →
      f k ≡ command.letter ∷ behind_first (f k) → AreIn boxes (with_value k (behind_first (f k)) f) → AreIn (with_mail k (with_put_back command (mail_at boxes k)) boxes) f
  back_in boxes f k command there front h = record { each = λ j. at j (cases_eq j k) }
    where
      now : Mail (Command L)
      now = with_put_back command (mail_at boxes k)

      rest : letters (mail_at boxes k) ≡ behind_first (f k)
      rest = h.each k ∙ ap (λ (b : Bool). if b then behind_first (f k) else f k) (eq-eqb k k refl)

      at : (j : ℕ) → (j ≡ k) ⊎ (j ≡ k → ⊥) → letters (mail_at (with_mail k now boxes) j) ≡ f j
      at j (inl same) =
          subst (λ (n : ℕ). letters (mail_at (with_mail k now boxes) n) ≡ f n) (sym same)
          (ap letters (get_or-set_same boxes k now no_mail there) ∙ ap (λ (ls : List Letter). command.letter ∷ ls) rest ∙ sym front)
      at j (inr other) =
          ap letters (get_or-set_other boxes k j now no_mail other) ∙ h.each j ∙ ap (λ (b : Bool). if b then behind_first (f k) else f j) (ne_eqb j k other)

  module _ (old new : State L) (objects : new.objects ≡ old.objects) (pairs : new.pairs ≡ old.pairs) (book : new.book ≡ old.book) (workers : new.workers ≡ old.workers) where
    -- the mailboxes changed, and the rest did not
    pub boxes_stand : (c : Control) (f : ℕ → List Letter) (n : ℕ) → AreIn new.boxes f → length new.boxes ≡ n → Stands old c → Stands new (record c { boxes = f; slots = n })
    boxes_stand c f n boxes slots h = record {
      objects = rw objects h.objects;
      pairs = rw pairs h.pairs;
      counted = λ i. rw objects (h.counted i);
      sent = λ i. rw objects (h.sent i);
      lists = rw objects h.lists;
      boxes = boxes;
      slots = slots;
      workers = workers ∙ h.workers;
      names = rw book h.names;
    }

    pub room_stands : (k n : ℕ) → new.boxes ≡ with_mail k (with_spare n (mail_at old.boxes k)) old.boxes → (c : Control) → Stands old c → Stands new c
    room_stands k n is c h = boxes_stand c c.boxes c.slots (rw is (room_in old.boxes c.boxes k n h.boxes)) (rw is (length-set old.boxes k _ ∙ h.slots)) h

    pub box_stands : (room : ℕ) → new.boxes ≡ old.boxes ++ with_spare room no_mail ∷ [] → (c : Control) → Stands old c → Stands new (slot_more c)
    box_stands room is c h = boxes_stand c c.boxes _ (rw is (more_in old.boxes c.boxes room h.boxes)) (rw is (length_push old.boxes (with_spare room no_mail) ∙ ap (λ (n : ℕ). n + 1) h.slots)) h

    pub taken_stands : (k : ℕ) (command : Command L) → Takes k command old.boxes new.boxes → length new.boxes ≡ length old.boxes → (c : Control) → Stands old c → Stands new (without_front k c)
    taken_stands k command t many c h = boxes_stand c _ c.slots (taken_in old.boxes new.boxes c.boxes k command t h.boxes) (many ∙ h.slots) h

    pub back_stands : (k : ℕ) (command : Command L) → k < length old.boxes → new.boxes ≡ with_mail k (with_put_back command (mail_at old.boxes k)) old.boxes → (c : Control) →
        c.boxes k ≡ command.letter ∷ behind_first (c.boxes k) → Stands old (without_front k c) → Stands new c
    back_stands k command there is c front h =
        boxes_stand (without_front k c) c.boxes c.slots (rw is (back_in old.boxes c.boxes k command there front h.boxes)) (rw is (length-set old.boxes k _ ∙ h.slots)) h

-- what follows from each answer that is one
pub on_some : {X : Type 0} (r : Option X) (T : X → Type 0) (P : Type 0) → IfSome r T → ((x : X) → T x → P) → OnSome r P
on_some None T P h f = tt
on_some (Some x) T P h f = f x h

module _ {L : Type 0} where
  -- a mailbox that was added is taken out again
  pub cut_back : (old mid now : State L) (boxes : List (Mail (Command L))) (mail : Mail (Command L)) (many : ℕ) → mid ≡ on_boxes (λ b. b ++ mail ∷ []) old → now ≡ mid → many ≡ length old.boxes →
      boxes ≡ take many now.boxes → on_boxes (λ _. boxes) now ≡ old
  cut_back old mid now boxes mail many added same count cut =
      ap (λ (s : State L). on_boxes (λ _. boxes) s) (same ∙ added) ∙ ap (λ (b : List (Mail (Command L))). on_boxes (λ _. b) old)
      (cut ∙ ap (λ (s : State L). take many s.boxes) (same ∙ added) ∙ ap (λ (n : ℕ). take n (old.boxes ++ mail ∷ [])) count ∙ take-append-le (length old.boxes) old.boxes (mail ∷ []) (omega arith) ∙ take_all (length old.boxes) old.boxes (omega arith))

  -- a mailbox with room for so many commands more
  abbrev with_more : ℕ → ℕ → State L → State L
  with_more k more s = on_boxes (with_mail k (with_spare ((mail_at s.boxes k).spare + more) (mail_at s.boxes k))) s

  -- room in a mailbox that was given back
  box_back : (s : State L) (k more : ℕ) → k < length s.boxes →
      on_boxes (with_mail k (with_spare ((mail_at (with_more k more s).boxes k).spare - more) (mail_at (with_more k more s).boxes k))) (with_more k more s) ≡ s
  box_back s k more there = ap (λ (b : List (Mail (Command L))). on_boxes (λ _. b) s) back
    where
      mail : Mail (Command L)
      mail = mail_at s.boxes k

      more_mail : Mail (Command L)
      more_mail = with_spare (mail.spare + more) mail

      back : with_mail k (with_spare ((mail_at (with_mail k more_mail s.boxes) k).spare - more) (mail_at (with_mail k more_mail s.boxes) k)) (with_mail k more_mail s.boxes) ≡ s.boxes
      back =
          set-set s.boxes k more_mail _
          ∙ ap (λ (x : Mail (Command L)). with_mail k (with_spare (x.spare - more) x) s.boxes) (get_or-set_same s.boxes k more_mail no_mail there)
          ∙ ap (λ (n : ℕ). with_mail k (with_spare n mail) s.boxes) (let e : mail.spare + more - more ≡ mail.spare = omega arith in e)
          ∙ set-get_or s.boxes k no_mail

  pub boxes_back : (old mid now last : State L) (k more : ℕ) → k < length old.boxes → mid ≡ on_boxes (with_mail k (with_spare ((mail_at old.boxes k).spare + more) (mail_at old.boxes k))) old → now ≡ mid →
      last ≡ on_boxes (with_mail k (with_spare ((mail_at now.boxes k).spare - more) (mail_at now.boxes k))) now → last ≡ old
  boxes_back old mid now last k more there kept same given =
      given ∙ ap (λ (s : State L). on_boxes (with_mail k (with_spare ((mail_at s.boxes k).spare - more) (mail_at s.boxes k))) s) (same ∙ kept) ∙ box_back old k more there

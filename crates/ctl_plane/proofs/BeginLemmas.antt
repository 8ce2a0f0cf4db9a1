-- What is kept at a context's making.
use Rattle.std.specs.Prelude.{◌≡◌, ◌<◌, ◌≤◌, ◌⊎◌, ◌+◌, ◌^◌, ◌==◌, ℕ, Bool, cond, List, [], length, replicate, refl}
use Rattle.std.proofs.Common.{arith, sym, ap, ◌∙◌, subst, inl, inr}
use Rattle.std.proofs.lemmas.Bool.{cases_eq, ne_eqb}
use Rattle.std.proofs.lemmas.List.{get_or-set_same, length-set, length-replicate}
use Rattle.mailbox.specs.Mail.{Mail, no_mail, with_spare}
use Rattle.spec_control.specs.Control.{begun}
use Rattle.control_laws.specs.Room.{to_come}
use Rattle.control_laws.proofs.WorkedLemmas.{first_room_is_so}
use Rattle.ctl_state.specs.declared.command.Command.{Command}
use Rattle.ctl_state.specs.declared.state.State.{State}
use Rattle.ctl_state.specs.Boxes.{mail_at, with_mail}
use Rattle.ctl_state.specs.Listed.{Listed, no_list, with_room}
use Rattle.ctl_state.specs.Stands.{Stands}
use Rattle.spec_control.specs.declared.entry.Did.{Did}
use Rattle.ctl_plane.specs.Past.{IsHistory}

module _ {L G N S : Type 0} where
  -- with room for the root's Term in its mailbox, and for its asking and its end in the history
  pub begins : (s : State L) (workers spare : ℕ) (empty : List (Mail (Command L))) → workers < 2 ^ 31 → Stands s (begun workers) → empty ≡ replicate (workers + 1) no_mail →
      s.boxes ≡ with_mail 0 (with_spare ((mail_at empty 0).spare + 1) (mail_at empty 0)) empty → 2 ≤ spare →
      IsHistory {L = L} {G = G} {N = N} {S = S} s (record { workers = workers; events = []; given = [] }) spare
  begins s workers spare empty few stands none is room = record {
    few = few;
    run = tt;
    stands = stands;
    room = λ m. at m (cases_eq m 0);
    entries = let two = first_room_is_so.history workers in omega (arith, two, room);
    root = refl;
    objects = omega arith;
    pairs = omega arith;
    boxes = let same = many in omega (arith, same);
  }
    where
      all : length empty ≡ workers + 1
      all = ap (λ (b : List (Mail (Command L))). length b) none ∙ length-replicate (workers + 1) no_mail

      many : length s.boxes ≡ workers + 1
      many = ap (λ (b : List (Mail (Command L))). length b) is ∙ length-set empty 0 _ ∙ all

      at : (m : ℕ) → (m ≡ 0) ⊎ (m ≡ 0 → ⊥) → to_come (begun workers) m ≤ (mail_at s.boxes m).spare
      at m (inl same) =
          let most = first_room_is_so.mailboxes workers m in
          let one = at_most (0 == m) in
          let there : 0 < length empty = (let a = all in omega (arith, a)) in
          let now = ap (λ (b : List (Mail (Command L))). (mail_at b 0).spare) is ∙ ap (λ (mail : Mail (Command L)). mail.spare) (get_or-set_same empty 0 (with_spare ((mail_at empty 0).spare + 1) (mail_at empty 0)) no_mail there) in
          let here = ap (λ (n : ℕ). (mail_at s.boxes n).spare) same in
          omega (arith, most, one, now, here)
        where
          at_most : (b : Bool) → cond b 1 0 ≤ 1
          at_most b = grind arith
      at m (inr other) =
          let most = first_room_is_so.mailboxes workers m in
          let none_here = ap {B = ℕ} (λ (b : Bool). cond b 1 0) (ne_eqb 0 m (λ e. other (sym e))) in
          omega (arith, most, none_here)

  -- the same with the history's list, which has no event yet
  pub begins_now : (s : State L) (workers : ℕ) (empty : List (Mail (Command L))) (l : Listed (Did N S)) → workers < 2 ^ 31 → Stands s (begun workers) → empty ≡ replicate (workers + 1) no_mail →
      s.boxes ≡ with_mail 0 (with_spare ((mail_at empty 0).spare + 1) (mail_at empty 0)) empty → l ≡ with_room 2 no_list →
      IsHistory {L = L} {G = G} {N = N} {S = S} s (record { workers = workers; events = l.items; given = [] }) l.spare
  begins_now s workers empty l few stands none is room =
      subst (λ (x : Listed (Did N S)). IsHistory {L = L} {G = G} {N = N} {S = S} s (record { workers = workers; events = x.items; given = [] }) x.spare) (sym room) (begins s workers 2 empty few stands none is (omega arith))

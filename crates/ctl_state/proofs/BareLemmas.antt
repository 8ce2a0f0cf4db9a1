-- That only commands with no load are put where objects are told, stopped or acknowledged.
use Rattle.std.specs.Prelude.{◌≡◌, ◌<◌, ◌⊎◌, ◌++◌, ◌∷◌, [], ℕ, List, None, true, refl}
use Rattle.std.proofs.Common.{arith, sym, ap, ◌∙◌, subst, inl, inr}
use Rattle.std.proofs.lemmas.Bool.{cases_eq}
use Rattle.std.proofs.lemmas.List.{append-nil, append_assoc, length-append, length-set, get_or-set_same, get_or-set_other}
use Rattle.std.proofs.lemmas.List.Elements.{All-nil, All-cons, All-append}
use Rattle.mailbox.specs.Mail.{Mail, no_mail, with_sent}
use Rattle.ctl_state.specs.declared.command.Command.{Command}
use Rattle.ctl_state.specs.declared.state.State.{State}
use Rattle.ctl_state.specs.Boxes.{mail_at, with_mail, tells_object, IsBareTold, GrowsBare, PutsBare}
use Rattle.ctl_state.specs.Parts.{sent_to, Tells}
use Rattle.ctl_state.proofs.StandLemmas.{roomy}

module _ {L : Type 0} where
  grows_not : (m : Mail (Command L)) → GrowsBare m m
  grows_not m = record { more = []; commands = sym (append-nil m.commands); bare = All-nil (λ (x : Command L). IsBareTold x); spare = omega arith; freed = refl }

  grows_on : (a b c : Mail (Command L)) → GrowsBare a b → GrowsBare b c → GrowsBare a c
  grows_on a b c h k = record {
    more = h.more ++ k.more;
    commands = k.commands ∙ ap (λ (xs : List (Command L)). xs ++ k.more) h.commands ∙ append_assoc a.commands h.more k.more;
    bare = All-append (λ (x : Command L). IsBareTold x) h.more k.more h.bare k.bare;
    spare = let first = h.spare in let last = k.spare in let both = length-append h.more k.more in omega (arith, first, last, both);
    freed = k.freed ∙ h.freed;
  }

  grows_sent : (m : Mail (Command L)) (command : Command L) → IsBareTold command → 0 < m.spare → GrowsBare m (with_sent command m)
  grows_sent m command bare room = record {
    more = command ∷ [];
    commands = refl;
    bare = All-cons (λ (x : Command L). IsBareTold x) command [] bare (All-nil (λ (x : Command L). IsBareTold x));
    spare = omega (arith, room);
    freed = refl;
  }

  pub bare_not : (boxes : List (Mail (Command L))) → PutsBare boxes boxes
  bare_not boxes = record { grows = λ k. grows_not (mail_at boxes k); many = refl }

  pub bare_on : (a b c : List (Mail (Command L))) → PutsBare a b → PutsBare b c → PutsBare a c
  bare_on a b c h k = record { grows = λ i. grows_on (mail_at a i) (mail_at b i) (mail_at c i) (h.grows i) (k.grows i); many = k.many ∙ h.many }

  bare_sent : (boxes : List (Mail (Command L))) (k : ℕ) (command : Command L) → IsBareTold command → 0 < (mail_at boxes k).spare →
      PutsBare boxes (with_mail k (with_sent command (mail_at boxes k)) boxes)
  bare_sent boxes k command bare room = record { grows = λ i. at i (cases_eq i k); many = length-set boxes k now }
    where
      now : Mail (Command L)
      now = with_sent command (mail_at boxes k)

      at : (i : ℕ) → (i ≡ k) ⊎ (i ≡ k → ⊥) → GrowsBare (mail_at boxes i) (mail_at (with_mail k now boxes) i)
      at i (inl same) =
          subst (λ (n : ℕ). GrowsBare (mail_at boxes n) (mail_at (with_mail k now boxes) n)) (sym same)
          (subst (λ (m : Mail (Command L)). GrowsBare (mail_at boxes k) m) (sym (get_or-set_same boxes k now no_mail (roomy boxes k room)))
          (grows_sent (mail_at boxes k) command bare room))
      at i (inr other) =
          subst (λ (m : Mail (Command L)). GrowsBare (mail_at boxes i) m) (sym (get_or-set_other boxes k i now no_mail other)) (grows_not (mail_at boxes i))

  pub tells_not : (s new : State L) → new.boxes ≡ s.boxes → new.objects.lists ≡ s.objects.lists → Tells s new
  tells_not s new boxes lists = record { bare = rw boxes (bare_not s.boxes); lists = lists }

  pub tells_on : (a b c : State L) → Tells a b → Tells b c → Tells a c
  tells_on a b c h k = record { bare = bare_on a.boxes b.boxes c.boxes h.bare k.bare; lists = k.lists ∙ h.lists }

  -- one was put
  pub tells_one : (s mid new : State L) (k : ℕ) (command : Command L) → command.load ≡ None → tells_object command.letter.word ≡ true → 0 < (mail_at s.boxes k).spare → mid.boxes ≡ s.boxes →
      mid.objects.lists ≡ s.objects.lists → new ≡ sent_to k command mid → Tells s new
  tells_one s mid new k command bare word room boxes lists is = record {
    bare = subst (λ (b : List (Mail (Command L))). PutsBare s.boxes b) (sym (ap (λ (x : State L). x.boxes) is
        ∙ ap (λ (b : List (Mail (Command L))). with_mail k (with_sent command (mail_at b k)) b) boxes)) (bare_sent s.boxes k command (record { empty = bare; word = word }) room);
    lists = ap (λ (x : State L). x.objects.lists) is ∙ lists;
  }

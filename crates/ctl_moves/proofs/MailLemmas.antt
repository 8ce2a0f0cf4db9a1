-- Commands that were put, each with what it is to bring.
use Rattle.std.specs.Prelude.{◌≡◌, ◌<◌, ◌⊎◌, ◌++◌, ◌∷◌, [], ℕ, List, Option, refl}
use Rattle.std.proofs.Common.{arith, sym, ap, ◌∙◌, subst, inl, inr}
use Rattle.std.proofs.lemmas.Bool.{cases_eq}
use Rattle.std.proofs.lemmas.List.{append-nil, append_assoc, length-append, length-set, get_or-set_same, get_or-set_other}
use Rattle.std.proofs.lemmas.List.Elements.{All-nil, All-cons, All-append}
use Rattle.zq_base.specs.declared.ids.EndId.{EndId}
use Rattle.mailbox.specs.Mail.{Mail, no_mail, with_sent}
use Rattle.desk.specs.declared.load.Load.{Load}
use Rattle.ctl_state.specs.declared.command.Command.{Command}
use Rattle.ctl_state.specs.Boxes.{mail_at, with_mail}
use Rattle.ctl_state.proofs.StandLemmas.{roomy}
use Rattle.ctl_moves.specs.Turning.{IsLoaded, GrowsLoaded, PutsLoaded}

module _ {N O I : Type 0} (out_name : O → N) (in_name : I → N) (names : EndId → Option N) where
  abbrev Fine : Command (Load N O I) → Type 0
  Fine command = IsLoaded out_name in_name names command

  abbrev Grows : (old new : Mail (Command (Load N O I))) → Type 0
  Grows old new = GrowsLoaded out_name in_name names old new

  abbrev Puts : (old new : List (Mail (Command (Load N O I)))) → Type 0
  Puts old new = PutsLoaded out_name in_name names old new

  grows_not : (m : Mail (Command (Load N O I))) → Grows m m
  grows_not m = record { more = []; commands = sym (append-nil m.commands); loaded = All-nil Fine; spare = omega arith }

  grows_on : (a b c : Mail (Command (Load N O I))) → Grows a b → Grows b c → Grows a c
  grows_on a b c h k = record {
    more = h.more ++ k.more;
    commands = k.commands ∙ ap (λ (xs : List (Command (Load N O I))). xs ++ k.more) h.commands ∙ append_assoc a.commands h.more k.more;
    loaded = All-append Fine h.more k.more h.loaded k.loaded;
    spare = let first = h.spare in let last = k.spare in let both = length-append h.more k.more in omega (arith, first, last, both);
  }

  grows_sent : (m : Mail (Command (Load N O I))) (command : Command (Load N O I)) → Fine command → 0 < m.spare → Grows m (with_sent command m)
  grows_sent m command fine room = record {
    more = command ∷ [];
    commands = refl;
    loaded = All-cons Fine command [] fine (All-nil Fine);
    spare = omega (arith, room);
  }

  pub puts_not : (old new : List (Mail (Command (Load N O I)))) → new ≡ old → Puts old new
  puts_not old new same = rw same (record { grows = λ k. grows_not (mail_at old k); many = refl })

  pub puts_on : (a b c : List (Mail (Command (Load N O I)))) → Puts a b → Puts b c → Puts a c
  puts_on a b c h k = record { grows = λ i. grows_on (mail_at a i) (mail_at b i) (mail_at c i) (h.grows i) (k.grows i); many = k.many ∙ h.many }

  pub puts_sent : (boxes : List (Mail (Command (Load N O I)))) (k : ℕ) (command : Command (Load N O I)) → Fine command → 0 < (mail_at boxes k).spare →
      Puts boxes (with_mail k (with_sent command (mail_at boxes k)) boxes)
  puts_sent boxes k command fine room = record { grows = λ i. at i (cases_eq i k); many = length-set boxes k now }
    where
      now : Mail (Command (Load N O I))
      now = with_sent command (mail_at boxes k)

      at : (i : ℕ) → (i ≡ k) ⊎ (i ≡ k → ⊥) → Grows (mail_at boxes i) (mail_at (with_mail k now boxes) i)
      at i (inl same) =
          subst (λ (n : ℕ). Grows (mail_at boxes n) (mail_at (with_mail k now boxes) n)) (sym same)
          (subst (λ (m : Mail (Command (Load N O I))). Grows (mail_at boxes k) m) (sym (get_or-set_same boxes k now no_mail (roomy boxes k room)))
          (grows_sent (mail_at boxes k) command fine room))
      at i (inr other) =
          subst (λ (m : Mail (Command (Load N O I))). Grows (mail_at boxes i) m) (sym (get_or-set_other boxes k i now no_mail other)) (grows_not (mail_at boxes i))

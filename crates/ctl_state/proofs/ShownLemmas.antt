-- That the bits of mailboxes go on showing in which a command waits.
use Rattle.std.specs.Prelude.{◌≡◌, ◌<◌, ◌≤◌, ◌⊎◌, ◌/◌, ◌==◌, ◌++◌, ◌∷◌, [], ℕ, Bool, List, cond, length, slice_index_or, take, refl}
use Rattle.std.proofs.Common.{arith, sym, ap, ◌∙◌, inl, inr}
use Rattle.std.proofs.lemmas.Bool.{cases_eq, cases_lt, eq-eqb, ne_eqb}
use Rattle.std.proofs.lemmas.List.{length-set, length-take, length_push, get_or-set_same, get_or-set_other, get_or-take, get_or_past}
use Rattle.mailbox.specs.Mail.{Mail, no_mail, with_spare}
use Rattle.ctl_state.specs.declared.command.Command.{Command}
use Rattle.ctl_state.specs.Bits.{bit_in, some_bit}
use Rattle.ctl_state.specs.Boxes.{mail_at, with_mail, AreShown}
use Rattle.ctl_state.proofs.ReadLemmas.{read_kept, pushed_same}

module _ {L : Type 0} where
  -- one mailbox has other commands, and its bit was set so
  pub shown_one : (words now : List ℕ) (boxes : List (Mail (Command L))) (k : ℕ) (mail : Mail (Command L)) → k < length boxes → AreShown words boxes →
      length now ≡ length words → ((j : ℕ) → bit_in now j ≡ cond (j == k) (some_bit mail.commands) (bit_in words j)) → AreShown now (with_mail k mail boxes)
  shown_one words now boxes k mail there h long set = record {
    each = λ j. set j ∙ at j (cases_eq j k);
    long = (let few = h.long in let same = length-set boxes k mail in omega (arith, few, same, long));
  }
    where
      at : (j : ℕ) → (j ≡ k) ⊎ (j ≡ k → ⊥) → cond (j == k) (some_bit mail.commands) (bit_in words j) ≡ some_bit (mail_at (with_mail k mail boxes) j).commands
      at j (inl same) =
          ap (λ (b : Bool). cond b (some_bit mail.commands) (bit_in words j)) (eq-eqb j k same)
          ∙ sym (ap (λ (n : ℕ). some_bit (mail_at (with_mail k mail boxes) n).commands) same
          ∙ ap (λ (m : Mail (Command L)). some_bit m.commands) (get_or-set_same boxes k mail no_mail there))
      at j (inr other) =
          ap (λ (b : Bool). cond b (some_bit mail.commands) (bit_in words j)) (ne_eqb j k other)
          ∙ h.each j
          ∙ sym (ap (λ (m : Mail (Command L)). some_bit m.commands) (get_or-set_other boxes k j mail no_mail other))

  -- there is more or less room in one
  pub shown_room : (words : List ℕ) (boxes : List (Mail (Command L))) (k n : ℕ) → AreShown words boxes → AreShown words (with_mail k (with_spare n (mail_at boxes k)) boxes)
  shown_room words boxes k n h = record {
    each = λ j. h.each j ∙ sym (read_kept (λ (m : Mail (Command L)). some_bit m.commands) boxes k j (with_spare n (mail_at boxes k)) no_mail refl);
    long = (let few = h.long in let same = length-set boxes k (with_spare n (mail_at boxes k)) in omega (arith, few, same));
  }

  -- a mailbox more
  pub shown_more : (words now : List ℕ) (boxes : List (Mail (Command L))) (room : ℕ) → AreShown words boxes → ((k : ℕ) → bit_in now k ≡ bit_in words k) → length boxes / 64 < length now → AreShown now (boxes ++ with_spare room no_mail ∷ [])
  shown_more words now boxes room h same there = record {
    each = λ j. same j ∙ h.each j ∙ sym (pushed_same (λ (m : Mail (Command L)). some_bit m.commands) boxes (with_spare room no_mail) no_mail j refl);
    long = (let more = length_push boxes (with_spare room no_mail) in omega (arith, there, more));
  }

  -- more words, with the same bits
  pub shown_still : (words now : List ℕ) (boxes : List (Mail (Command L))) → AreShown words boxes → ((k : ℕ) → bit_in now k ≡ bit_in words k) → length words ≤ length now → AreShown now boxes
  shown_still words now boxes h same long = record {
    each = λ j. same j ∙ h.each j;
    long = (let few = h.long in omega (arith, few, long));
  }

  -- the first mailboxes alone
  pub shown_front : (words now : List ℕ) (boxes : List (Mail (Command L))) (many : ℕ) → AreShown words boxes → many ≤ length boxes → length now ≡ length words →
      ((k : ℕ) → k < many → bit_in now k ≡ bit_in words k) → ((k : ℕ) → many ≤ k → k < length boxes → bit_in now k ≡ 0) → ((k : ℕ) → length boxes ≤ k → bit_in now k ≡ bit_in words k) →
      AreShown now (take many boxes)
  shown_front words now boxes many h few long before clear behind = record {
    each = λ j. at j (cases_lt j many) (cases_lt j (length boxes));
    long = (let had = h.long in let fewer = length-take many boxes in omega (arith, had, fewer, few, long));
  }
    where
      gone : (j : ℕ) → many ≤ j → some_bit (mail_at (take many boxes) j).commands ≡ 0
      gone j out = ap (λ (m : Mail (Command L)). some_bit m.commands) (get_or_past (take many boxes) j no_mail (let fewer = length-take many boxes in omega (arith, fewer, out)))

      at : (j : ℕ) → (j < many) ⊎ (many ≤ j) → (j < length boxes) ⊎ (length boxes ≤ j) → bit_in now j ≡ some_bit (mail_at (take many boxes) j).commands
      at j (inl below) _ = before j below ∙ h.each j ∙ sym (ap (λ (m : Mail (Command L)). some_bit m.commands) (get_or-take many boxes j no_mail below))
      at j (inr out) (inl within) = clear j out within ∙ sym (gone j out)
      at j (inr out) (inr past) = behind j past ∙ h.each j ∙ ap (λ (m : Mail (Command L)). some_bit m.commands) (get_or_past boxes j no_mail past) ∙ sym (gone j out)

  -- a mailbox with room is there
  pub there_with_room : (boxes : List (Mail (Command L))) (k : ℕ) → 0 < (mail_at boxes k).spare → k < length boxes
  there_with_room boxes k some = by (cases_lt k (length boxes))
    where
      by : (k < length boxes) ⊎ (length boxes ≤ k) → k < length boxes
      by (inl there) = there
      by (inr past) = absurd (let none = ap (λ (m : Mail (Command L)). m.spare) (get_or_past boxes k no_mail past) in omega (arith, none, some))

  -- its bit is there
  pub bit_there : (words : List ℕ) (boxes : List (Mail (Command L))) (k : ℕ) → AreShown words boxes → k < length boxes → k / 64 < length words
  bit_there words boxes k h there = let long = h.long in omega (arith, long, there)

  -- its bit was set as it was read
  pub shown_read : (words now : List ℕ) (boxes : List (Mail (Command L))) (k : ℕ) (mail seen : Mail (Command L)) → k < length boxes → AreShown words boxes → length now ≡ length words →
      seen ≡ slice_index_or (with_mail k mail boxes) k seen → ((j : ℕ) → bit_in now j ≡ cond (j == k) (some_bit seen.commands) (bit_in words j)) → AreShown now (with_mail k mail boxes)
  shown_read words now boxes k mail seen there h long read set =
      shown_one words now boxes k mail there h long
      (λ j. set j ∙ ap (λ (m : Mail (Command L)). cond (j == k) (some_bit m.commands) (bit_in words j)) (read ∙ get_or-set_same boxes k mail seen there))

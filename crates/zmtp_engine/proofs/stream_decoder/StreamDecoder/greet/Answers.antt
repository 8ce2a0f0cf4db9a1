use Rattle.std.proofs.Common.{◌≡◌, true, ℕ, zero, suc, ◌+◌, ◌<◌, ◌++◌, ◌∷◌, [], List, Option, None, Some, length, take, get_or, refl, sym, ap, ◌∙◌, arith}
use Rattle.std.specs.Option.{is_some}
use Rattle.std.proofs.lemmas.List.{length-append, append_assoc}
use Rattle.spec_zmtp.specs.declared.cause.Refusal.{Refusal}
use Rattle.spec_zmtp.specs.Greeting.{refusal_in, greeting_refusal}
use Rattle.zmtp_engine.proofs.Feeds.{not_refused}
use Rattle.zmtp_engine.proofs.stream_decoder.StreamDecoder.greet.Goals as goal

next_one : (n : ℕ) (xs : List ℕ) → n < length xs → take (suc n) xs ≡ take n xs ++ get_or xs n 0 ∷ []
next_one n [] lt = absurd (omega arith)
next_one zero (x ∷ xs) lt = refl
next_one (suc n) (x ∷ xs) lt = ap (λ (l : List ℕ). x ∷ l) (next_one n xs (omega arith))

one_more : (n m : ℕ) (xs front old new : List ℕ) → m ≡ n + 1 → n < length xs → old ≡ front ++ take n xs → new ≡ old ++ get_or xs n 0 ∷ [] → new ≡ front ++ take m xs
one_more n m xs front old new e lt is more =
    let k : suc n ≡ m = omega (arith, e) in
    more ∙ ap (λ (l : List ℕ). l ++ get_or xs n 0 ∷ []) is ∙ append_assoc front (take n xs) (get_or xs n 0 ∷ []) ∙ ap (λ (l : List ℕ). front ++ l) (sym (next_one n xs lt)) ∙ ap (λ (j : ℕ). front ++ take j xs) k

no_fault : {A : Type 0} (o : Option Refusal) → is_some o ≡ true → o ≡ None → A
no_fault None is e = absurd cc
no_fault (Some r) is e = absurd cc

pub returns-then-is_some-clause-greets : goal.returns-then-is_some-clause-greets
returns-then-is_some-clause-greets c =
    let i = c.octets.invariant in
    let filled = one_more c.octets.count (c.octets.count + 1) c.args.piece.now c.args.self.now.greeting.items c.octets.self.greeting.items c.push_reserved.new.self.items refl c.if-count-piece.true i.filled c.push_reserved.ensures.items in
    record {
      role = i.role;
      hearing = i.hearing;
      filled = filled;
      within = omega (arith, c.if-count-piece.true);
      few = omega (arith, i.long, c.octets-test.true, c.len.ensures);
      told = λ lt. c.fault_in-self.ensures ∙ ap refusal_in c.read.ensures ∙ ap (λ (l : List ℕ). greeting_refusal c.octets.self.role l) c.as_slice.ensures.value;
      still = λ z. absurd (omega (arith, z));
      all = λ open_. no_fault c.fault_in-self.result (sym c.if-is_some.ensures) open_;
      before = λ some. (c.octets.count, refl, λ lt. ap (λ (l : List ℕ). greeting_refusal c.octets.self.role l) (sym i.filled) ∙ i.fine lt);
    }

pub octets-preserved : goal.octets-preserved
octets-preserved c =
    let i = c.octets.invariant in
    let filled = one_more c.octets.count (c.octets.count + 1) c.args.piece.now c.args.self.now.greeting.items c.octets.self.greeting.items c.push_reserved.new.self.items refl c.if-count-piece.true i.filled c.push_reserved.ensures.items in
    let open_ = not_refused c.fault_in-self.result (sym c.if-is_some.ensures) in
    record {
      role = i.role;
      hearing = i.hearing;
      filled = filled;
      within = omega (arith, c.if-count-piece.true);
      room = omega (arith, i.room, c.push_reserved.ensures.capacity);
      few = omega (arith, i.long, c.octets-test.true, c.len.ensures);
      long = omega (arith, i.long, ap (λ (l : List ℕ). length l) c.push_reserved.ensures.items, length-append c.octets.self.greeting.items (get_or c.args.piece.now c.octets.count 0 ∷ []));
      open_ = open_;
      fine = λ lt. sym (c.fault_in-self.ensures ∙ ap refusal_in c.read.ensures ∙ ap (λ (l : List ℕ). greeting_refusal c.octets.self.role l) c.as_slice.ensures.value) ∙ open_;
    }

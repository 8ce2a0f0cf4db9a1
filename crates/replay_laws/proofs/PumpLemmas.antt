-- What an open socket does before each of its calls is settled by what it found, by the socket's state, and by the steps past.
use Rattle.std.specs.Prelude.{◌≡◌, ◌<◌, ◌≤◌, ◌+◌, ℕ, suc, List, [], ◌∷◌, ◌++◌, flat_map, length, map, refl}
use Rattle.std.proofs.Common.{arith, sym, ap, ◌∙◌, subst, append_assoc}
use Rattle.zq_base.specs.Ends.{PipeId}
use Rattle.spec_pattern.specs.PipeStep.{PipeStep, AreExact}
use Rattle.spec_pattern.specs.PatternCalls.{PatternPumps}
use Rattle.spec_pattern.specs.Peers.{kept_ends}
use Rattle.spec_pattern.specs.Outcomes.{PumpOutcome}
use Rattle.spec_pattern.specs.WholeLaws.{AgreeOn}
use Rattle.spec_pattern.proofs.PumpLemmas.{a_pump_has_one}
use Rattle.spec_pattern.proofs.PumpedLemmas.{all_written}
use Rattle.spec_control.specs.declared.letter.Letter.{Letter}
use Rattle.spec_control.specs.declared.entry.Did.TheVariants.{Delivered}
use Rattle.spec_control.specs.declared.entry.Item.{Item}
use Rattle.spec_control.specs.declared.entry.Item.TheVariants.{Event, Seen}
use Rattle.spec_control.specs.declared.entry.SeenEmpty.TheVariants.{Mailbox}
use Rattle.spec_control.specs.Control.{Control}
use Rattle.spec_control.specs.After.{after}
use Rattle.spec_control.specs.ControlRun.{Fits, FitsItem, IsSeen, AreEmpty, after_item}
use Rattle.spec_control.specs.Moments.{Moment, left_by}
use Rattle.spec_run.specs.Act.{Act, Step, Said, steps_in, moments_in}
use Rattle.spec_run.specs.OpenSocket.{OpenSock, can_write, waiting_ends, joins_of, sock_after, AreAnswered, PassesItems}
use Rattle.spec_run.specs.Event.{LooksFronts, LooksBehind, TakesLetter, TakesLetters, seals_in, acts_said}
use Rattle.spec_run.specs.Pump.{most_letters, EndsTaking, took_all, found_empty, Pumps}
use Rattle.replay_laws.specs.Blank.{blank}
use Rattle.replay_laws.proofs.WalkLemmas.{leaves, Walks, moments_on, walks_front, walks_behind, exact_of, steps_alone, seals_alone, steps_of_steps, Reached, reached_on, Same, same_none, same_both, same_as, same_steps, said_same}
use Rattle.replay_laws.proofs.LetterLemmas.{Sits, sock_same, one_letter}
use Rattle.replay_laws.proofs.LookLemmas.{moment_is, moments_said, sits_on, passes_on, behind_walks, looks_same, behind_same}

pub same_letter : (l : Letter) (ls : List Letter) (k : Letter) (ks : List Letter) → l ∷ ls ≡ k ∷ ks → l ≡ k
same_letter l ls k ks e = cc

pub exact_steps : (N S : Type 0) (cap : PipeId → ℕ) (steps : List PipeStep) (c : Control) (past : List PipeStep) → Walks cap c past (map (λ step. let a : Act N S = Step step in a) steps) → AreExact cap past steps
exact_steps N S cap steps c past w = subst (AreExact cap past) (steps_of_steps N S steps) (exact_of cap (map (λ step. Step step) steps) c past w)

module _ {N S : Type 0} where
  -- a socket comes out as one in two runs
  pub record SockSame (c d : Control) (xs ys : List (Act N S)) (s u v : OpenSock) : Type 0 where
    pub same : Same c d xs ys
    pub socks : u ≡ v

  -- ---- one letter
  pub take_same : (cap cup : PipeId → ℕ) (c d : Control) (past : List PipeStep) (s u v : OpenSock) (xs ys : List (Act N S)) → Reached N S c → Reached N S d → blank c ≡ blank d → Sits c s → Sits d s
      → Walks cap c past xs → Walks cup d past ys → TakesLetter s.slot xs → TakesLetter s.slot ys → PassesItems (moments_in xs) s u → PassesItems (moments_in ys) s v → SockSame c d xs ys s u v
  take_same cap cup c d past s u v xs ys r q p sits sat w w2 t t2 f f2 =
      let m = t.taken in
      let n = t2.taken in
      let one = subst (Walks cap c past) t.acts_are w in
      let other = subst (Walks cup d past) t2.acts_are w2 in
      let g = t.delivery.answered in
      let h = t2.delivery.answered in
      let fits : Fits c (Delivered (record { 0 = s.slot }) t.letter g) = subst (FitsItem c) t.delivery.item_is one.1 in
      let fits2 : Fits d (Delivered (record { 0 = s.slot }) t2.letter h) = subst (FitsItem d) t2.delivery.item_is other.1 in
      let letter : t2.letter ≡ t.letter = same_letter t2.letter fits2.may.behind t.letter fits.may.behind (sym fits2.may.oldest ∙ ap (λ (x : Control). x.boxes s.slot) (sym p) ∙ fits.may.oldest) in
      let also : Fits d (Delivered (record { 0 = s.slot }) t.letter h) = subst (λ l. Fits d (Delivered (record { 0 = s.slot }) l h)) letter fits2 in
      let m_is = moment_is m c t.delivery.by (Delivered (record { 0 = s.slot }) t.letter g) one.0 t.delivery.item_is in
      let n_is = moment_is n d t2.delivery.by (Delivered (record { 0 = s.slot }) t.letter h) other.0
      (t2.delivery.item_is ∙ ap (λ (l : Letter). let it : Item N S = Event (record { by = t2.delivery.by; did = Delivered (record { 0 = s.slot }) l h }) in it) letter) in
      let goes = subst (λ l. PassesItems l s u) (ap moments_in t.acts_are ∙ moments_said m t.looks) f in
      let goes2 = subst (λ l. PassesItems l s v) (ap moments_in t2.acts_are ∙ moments_said n t2.looks) f2 in
      let event = one_letter c d t.delivery.by t2.delivery.by t.letter g h s r q p sits sat fits also
      (subst (λ k. AreAnswered (joins_of s.object k) s.pattern) m_is goes.0) (subst (λ k. AreAnswered (joins_of s.object k) s.pattern) n_is goes2.0) in
      let left_m : ◌≡◌ {A = Control} (after_item m.item c) (after (Delivered (record { 0 = s.slot }) t.letter g) c) = ap (λ (k : Moment N S). after_item k.item c) m_is in
      let left_n : ◌≡◌ {A = Control} (after_item n.item d) (after (Delivered (record { 0 = s.slot }) t.letter h) d) = ap (λ (k : Moment N S). after_item k.item d) n_is in
      let states : blank (after_item m.item c) ≡ blank (after_item n.item d) = ap blank left_m ∙ event.states ∙ sym (ap blank left_n) in
      let said = said_same cap cup c d past m n (walks_front cap (acts_said m) t.looks c past one) (walks_front cup (acts_said n) t2.looks d past other) p states in
      let at_m : left_by m ≡ leaves c (acts_said m) = ap (after_item m.item) one.0 ∙ sym (seals_alone N S (seals_in m) (after_item m.item c)) in
      let at_n : left_by n ≡ leaves d (acts_said n) = ap (after_item n.item) other.0 ∙ sym (seals_alone N S (seals_in n) (after_item n.item d)) in
      let behind = subst (λ (x : Control). LooksBehind x t.letter.word t.looks) at_m t.behind in
      let behind2 = subst (λ (x : Control). LooksBehind x t.letter.word t2.looks) at_n (subst (λ (l : Letter). LooksBehind (left_by n) l.word t2.looks) letter t2.behind) in
      let looks = behind_same cap cup t.letter.word (leaves c (acts_said m)) (leaves d (acts_said n)) (past ++ steps_in (acts_said m)) t.looks t2.looks said.states behind behind2
      (walks_behind cap (acts_said m) t.looks c past one) (behind_walks cup c d past (acts_said m) (acts_said n) t2.looks said other) in
      let socks : sock_after m s ≡ sock_after n s = ap (λ k. sock_after k s) m_is ∙ event.socks ∙ sym (ap (λ k. sock_after k s) n_is) in
      record {
        same = same_as c d xs ys (acts_said m ++ t.looks) (acts_said n ++ t2.looks) t.acts_are t2.acts_are (same_both c d (acts_said m) (acts_said n) t.looks t2.looks said looks.same);
        socks = looks.pass (sock_after m s) u v goes.1 (subst (λ x. PassesItems (moments_in t2.looks) x v) (sym socks) goes2.1);
      }

  -- ---- the letters of a pump
  abbrev pub all_in : List (List (Act N S)) → List (Act N S)
  all_in xs = flat_map (λ x. x) xs

  over_none : (cap cup : PipeId → ℕ) (c d : Control) (past : List PipeStep) (s u v : OpenSock) (k : ℕ) (xs ys : List (Act N S)) → blank c ≡ blank d
      → Walks cap c past xs → Walks cup d past ys → EndsTaking s.slot k xs → EndsTaking s.slot k ys → PassesItems (moments_in xs) s u → PassesItems (moments_in ys) s v → SockSame c d xs ys s u v
  over_none cap cup c d past s u v k xs ys p w w2 (took_all all none) (took_all all2 none2) f f2 =
      record {
        same = same_as c d xs ys [] [] none none2 (same_none c d p);
        socks = subst (λ l. PassesItems (moments_in l) s u) none f ∙ sym (subst (λ l. PassesItems (moments_in l) s v) none2 f2);
      }
  over_none cap cup c d past s u v k xs ys p w w2 (took_all all none) (found_empty n few look is) f f2 = absurd (omega (arith, all, few))
  over_none cap cup c d past s u v k xs ys p w w2 (found_empty m few look is) (took_all all none) f f2 = absurd (omega (arith, all, few))
  over_none cap cup c d past s u v k xs ys p w w2 (found_empty m few look is) (found_empty n few2 look2 is2) f f2 =
      let one = subst (Walks cap c past) is w in
      let other = subst (Walks cup d past) is2 w2 in
      let goes = subst (λ l. PassesItems (moments_in l) s u) is f in
      let goes2 = subst (λ l. PassesItems (moments_in l) s v) is2 f2 in
      let m_is : ◌≡◌ {A = Moment N S} m (record { found = c; item = Seen look.sight }) = λ i. record { found = one.0 i; item = look.item_is i } in
      let n_is : ◌≡◌ {A = Moment N S} n (record { found = d; item = Seen look2.sight }) = λ i. record { found = other.0 i; item = look2.item_is i } in
      let left_m : ◌≡◌ {A = Control} (after_item m.item c) c = ap (λ (x : Item N S). after_item x c) look.item_is in
      let left_n : ◌≡◌ {A = Control} (after_item n.item d) d = ap (λ (x : Item N S). after_item x d) look2.item_is in
      record {
        same = same_as c d xs ys (Said m ∷ []) (Said n ∷ []) is is2 (record { steps = refl; states = ap blank left_m ∙ p ∙ sym (ap blank left_n) });
        socks = goes.1 ∙ ap (λ x. sock_after x s) m_is
            ∙ sock_same {N = N} {S = S} (record { found = c; item = Seen look.sight }) (record { found = d; item = Seen look2.sight }) s p refl refl
            ∙ sym (ap (λ x. sock_after x s) n_is) ∙ sym goes2.1;
      }

  within : (slot k : ℕ) (xs : List (Act N S)) → EndsTaking slot k xs → k ≤ most_letters
  within slot k xs (took_all all none) = omega (arith, all)
  within slot k xs (found_empty m few look is) = omega (arith, few)

  -- no run takes a letter where the other finds none
  no_more : {A : Type 0} (cap cup : PipeId → ℕ) (c d : Control) (past : List PipeStep) (slot k j : ℕ) (xs ys more : List (Act N S)) → blank c ≡ blank d → Walks cap c past xs → Walks cup d past (ys ++ more)
      → EndsTaking slot k xs → TakesLetter slot ys → k < j → j ≤ most_letters → A
  no_more cap cup c d past slot k j xs ys more p w w2 (took_all all none) t less most = absurd (omega (arith, all, less, most))
  no_more cap cup c d past slot k j xs ys more p w w2 (found_empty m few look is) t less most =
      let one = subst (Walks cap c past) is w in
      let seen : IsSeen c look.sight = subst (FitsItem c) look.item_is one.1 in
      let empty : AreEmpty c (Mailbox (record { 0 = slot })) = subst (AreEmpty c) look.empty_is seen.empty in
      let other = subst (λ l. Walks cup d past (l ++ more)) t.acts_are w2 in
      let fits : Fits d (Delivered (record { 0 = slot }) t.letter t.delivery.answered) = subst (FitsItem d) t.delivery.item_is other.1 in
      absurd (nope t.letter fits.may.behind (sym fits.may.oldest ∙ ap (λ (x : Control). x.boxes slot) (sym p) ∙ empty))
    where
      nope : (l : Letter) (ls : List Letter) → ◌≡◌ {A = List Letter} (l ∷ ls) [] → ⊥
      nope l ls e = cc

  keeps_sitting : (m : Moment N S) (s : OpenSock) (c : Control) → Sits c s → Sits c (sock_after m s)
  keeps_sitting m s c sits = record { socket = sits.socket; slot = sits.slot }

  passed_sits : (ms : List (Moment N S)) (s u : OpenSock) (c : Control) → PassesItems ms s u → Sits c s → Sits c u
  passed_sits [] s u c f sits = subst (Sits c) (sym f) sits
  passed_sits (m ∷ ms) s u c f sits = passed_sits ms (sock_after m s) u c f.1 (keeps_sitting m s c sits)

  passed_slot : (ms : List (Moment N S)) (s u : OpenSock) → PassesItems ms s u → u.slot ≡ s.slot
  passed_slot [] s u f = ap (λ (x : OpenSock). x.slot) f
  passed_slot (m ∷ ms) s u f = passed_slot ms (sock_after m s) u f.1

  pub letters_same : (cap cup : PipeId → ℕ) (ls ks : List (List (Act N S))) (c d : Control) (past : List PipeStep) (s u v : OpenSock) (k : ℕ) (xs ys : List (Act N S)) → Reached N S c → Reached N S d → blank c ≡ blank d → Sits c s → Sits d s
      → Walks cap c past (all_in ls ++ xs) → Walks cup d past (all_in ks ++ ys) → TakesLetters s.slot ls → TakesLetters s.slot ks → EndsTaking s.slot (k + length ls) xs → EndsTaking s.slot (k + length ks) ys
      → PassesItems (moments_in (all_in ls ++ xs)) s u → PassesItems (moments_in (all_in ks ++ ys)) s v → SockSame c d (all_in ls ++ xs) (all_in ks ++ ys) s u v
  letters_same cap cup [] [] c d past s u v k xs ys r q p sits sat w w2 t t2 e e2 f f2 = over_none cap cup c d past s u v (k + 0) xs ys p w w2 e e2 f f2
  letters_same cap cup [] (y ∷ ks) c d past s u v k xs ys r q p sits sat w w2 t t2 e e2 f f2 =
      no_more cap cup c d past s.slot (k + 0) (k + suc (length ks)) xs y (all_in ks ++ ys) p w (subst (Walks cup d past) (append_assoc y (all_in ks) ys) w2) e t2.0 (omega arith) (within s.slot (k + suc (length ks)) ys e2)
  letters_same cap cup (x ∷ ls) [] c d past s u v k xs ys r q p sits sat w w2 t t2 e e2 f f2 =
      no_more cup cap d c past s.slot (k + 0) (k + suc (length ls)) ys x (all_in ls ++ xs) (sym p) w2 (subst (Walks cap c past) (append_assoc x (all_in ls) xs) w) e2 t.0 (omega arith) (within s.slot (k + suc (length ls)) xs e)
  letters_same cap cup (x ∷ ls) (y ∷ ks) c d past s u v k xs ys r q p sits sat w w2 t t2 e e2 f f2 =
      let xs_are = append_assoc x (all_in ls) xs in
      let ys_are = append_assoc y (all_in ks) ys in
      let one = subst (Walks cap c past) xs_are w in
      let other = subst (Walks cup d past) ys_are w2 in
      let a = passes_on (moments_in x) (moments_in (all_in ls ++ xs)) s u (subst (λ l. PassesItems l s u) (ap moments_in xs_are ∙ moments_on x (all_in ls ++ xs)) f) in
      let b = passes_on (moments_in y) (moments_in (all_in ks ++ ys)) s v (subst (λ l. PassesItems l s v) (ap moments_in ys_are ∙ moments_on y (all_in ks ++ ys)) f2) in
      let first_walk = walks_front cap x (all_in ls ++ xs) c past one in
      let first_walk2 = walks_front cup y (all_in ks ++ ys) d past other in
      let first = take_same cap cup c d past s a.0 b.0 x y r q p sits sat first_walk first_walk2 t.0 t2.0 a.1 b.1 in
      let slot = passed_slot (moments_in x) s a.0 a.1 in
      let rest = letters_same cap cup ls ks (leaves c x) (leaves d y) (past ++ steps_in x) a.0 u v (k + 1) xs ys
      (reached_on cap x c past r first_walk) (reached_on cup y d past q first_walk2) first.same.states
      (passed_sits (moments_in x) s a.0 (leaves c x) a.1 (sits_on cap x c past r first_walk s sits)) (passed_sits (moments_in x) s a.0 (leaves d y) a.1 (sits_on cup y d past q first_walk2 s sat))
      (walks_behind cap x (all_in ls ++ xs) c past one) (behind_walks cup c d past x y (all_in ks ++ ys) first.same other)
      (subst (λ n. TakesLetters n ls) (sym slot) t.1) (subst (λ n. TakesLetters n ks) (sym slot) t2.1)
      (subst (λ n. EndsTaking n ((k + 1) + length ls) xs) (sym slot) (subst (λ n. EndsTaking s.slot n xs) (omega arith) e))
      (subst (λ n. EndsTaking n ((k + 1) + length ks) ys) (sym slot) (subst (λ n. EndsTaking s.slot n ys) (omega arith) e2))
      a.2 (subst (λ z. PassesItems (moments_in (all_in ks ++ ys)) z v) (sym first.socks) b.2) in
      record {
        same = same_as c d (all_in (x ∷ ls) ++ xs) (all_in (y ∷ ks) ++ ys) (x ++ (all_in ls ++ xs)) (y ++ (all_in ks ++ ys)) xs_are ys_are
            (same_both c d x y (all_in ls ++ xs) (all_in ks ++ ys) first.same rest.same);
        socks = rest.socks;
      }

  -- ---- the whole of a pump; where the states behind its letters are the same but for counts, two capacities agree at the ends that the socket keeps
  pub pump_same : (cap cup : PipeId → ℕ) (c d : Control) (past : List PipeStep) (s u v : OpenSock) (xs ys : List (Act N S)) → Reached N S c → Reached N S d → blank c ≡ blank d → Sits c s → Sits d s
      → Walks cap c past xs → Walks cup d past ys → (f : Pumps s xs u) → (g : Pumps s ys v)
      → (blank (leaves c (all_in f.letters ++ f.last)) ≡ blank (leaves d (all_in g.letters ++ g.last)) → AgreeOn cap cup (kept_ends f.heard.pattern)) → SockSame c d xs ys s u v
  pump_same cap cup c d past s u v xs ys r q p sits sat w w2 f g agree =
      let acts = all_in f.letters ++ f.last in
      let acts2 = all_in g.letters ++ g.last in
      let steps : List (Act N S) = map (λ step. Step step) f.steps in
      let steps2 : List (Act N S) = map (λ step. Step step) g.steps in
      let one = subst (Walks cap c past) f.acts_are w in
      let other = subst (Walks cup d past) g.acts_are w2 in
      let ends : EndsTaking s.slot (0 + length f.letters) f.last = subst (λ n. EndsTaking s.slot n f.last) (omega arith) f.ends in
      let ends2 : EndsTaking s.slot (0 + length g.letters) g.last = subst (λ n. EndsTaking s.slot n g.last) (omega arith) g.ends in
      let first = letters_same cap cup f.letters g.letters c d past s f.heard g.heard 0 f.last g.last r q p sits sat (walks_front cap acts (steps ++ f.looks) c past one) (walks_front cup acts2 (steps2 ++ g.looks) d past other)
      f.takes g.takes ends ends2 f.hears g.hears in
      let on = walks_behind cap acts (steps ++ f.looks) c past one in
      let on2 = behind_walks cup c d past acts acts2 (steps2 ++ g.looks) first.same other in
      let past2 = past ++ steps_in acts in
      let c2 = leaves c acts in
      let d2 = leaves d acts2 in
      let pumps2 = subst (λ (z : OpenSock). PatternPumps (can_write z) z.pattern g.steps g.pattern) (sym first.socks) g.pumps in
      let outcome : ◌≡◌ {A = PumpOutcome} (record { steps = f.steps; new = f.pattern }) (record { steps = g.steps; new = g.pattern }) =
      a_pump_has_one cap cup past2 (can_write f.heard) f.heard.pattern (record { steps = f.steps; new = f.pattern }) (record { steps = g.steps; new = g.pattern })
      (all_written (λ e. cap e ≡ cup e) f.heard.pattern (agree first.same.states)) f.pumps pumps2
      (record { one = exact_steps N S cap f.steps c2 past2 (walks_front cap steps f.looks c2 past2 on); other = exact_steps N S cup g.steps d2 past2 (walks_front cup steps2 g.looks d2 past2 on2) }) in
      let second = same_steps c2 d2 f.steps g.steps first.same.states (ap (λ (o : PumpOutcome). o.steps) outcome) in
      let at_c = steps_alone N S f.steps c2 in
      let at_d = steps_alone N S g.steps d2 in
      let looks2 = subst (λ (z : OpenSock). LooksFronts (waiting_ends z) g.looks) (sym first.socks) g.looks_are in
      let third = looks_same cap cup (waiting_ends f.heard) (leaves c2 steps) (leaves d2 steps2) (past2 ++ steps_in steps) f.looks g.looks second.states f.looks_are looks2
      (walks_behind cap steps f.looks c2 past2 on) (behind_walks cup c2 d2 past2 steps steps2 g.looks second on2) in
      let heard2 : ◌≡◌ {A = OpenSock} (record g.heard { pattern = g.pattern }) (record f.heard { pattern = f.pattern }) = λ i. record (sym first.socks i) { pattern = ap (λ (o : PumpOutcome). o.new) (sym outcome) i } in
      record {
        same = same_as c d xs ys (acts ++ (steps ++ f.looks)) (acts2 ++ (steps2 ++ g.looks)) f.acts_are g.acts_are
            (same_both c d acts acts2 (steps ++ f.looks) (steps2 ++ g.looks) first.same (same_both c2 d2 steps steps2 f.looks g.looks second third.same));
        socks = third.pass (record f.heard { pattern = f.pattern }) u v f.meets (subst (λ z. PassesItems (moments_in g.looks) z v) heard2 g.meets);
      }

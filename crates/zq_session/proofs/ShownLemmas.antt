-- What the counts of a link show of acts, one behind the other.
use Rattle.std.proofs.Common.{◌≡◌, ◌≤◌, ℕ, Bool, true, false, List, [], ◌∷◌, ◌++◌, Option, Some, None, sym, ap, subst, inl, inr, arith}
use Rattle.std.specs.Prelude.{◌⊎◌, ◌+◌, ◌-◌, ◌^◌}
use Rattle.std.proofs.Math.Nat.{le-min, le_trans, min-le_left, min-le_right}
use Rattle.zq_base.specs.Message.{Frames}
use Rattle.zq_base.specs.Ends.{PipeId}
use Rattle.zq_outer.specs.Count.{Rose, RoseIf}
use Rattle.zq_outer.specs.declared.link.LinkGot.{LinkGot}
use Rattle.zq_outer.specs.declared.link.LinkGot.TheVariants as link_got
use Rattle.zq_outer.specs.declared.link.LinkPut.{LinkPut}
use Rattle.zq_outer.specs.declared.link.LinkPut.TheVariants as link_put
use Rattle.msg_pipe.specs.Told.{take_step}
use Rattle.spec_pattern.specs.PipeStep.{PipeStep, Commit, FullLook, Take}
use Rattle.spec_link.specs.LinkAct.{LinkAct, Wire, Step, Writes, Reads, Repeats}
use Rattle.spec_link.specs.Parts.{write_acts, read_acts}
use Rattle.link_side.specs.Calls.{WriteCounts, ReadCounts, put_acts}
use Rattle.zq_session.specs.Shown.{IsAnswered, HasAnswer, AreShown}
use Rattle.zq_session.specs.Noting.{Next, Takes, Says, next_acts}
use Rattle.zq_session.proofs.ListLemmas.{in_either, in_one, in_none}
use Rattle.zq_session.proofs.ActLemmas.{writing, reading}

-- ---- where an answer is

module _ (p : LinkPut) (g : LinkGot) where
  has_on : (xs ys : List LinkAct) → HasAnswer p g (xs ++ ys) → HasAnswer p g xs ⊎ HasAnswer p g ys
  has_on xs ys h = elim (in_either xs ys h.0 h.1) as (λ _. HasAnswer p g xs ⊎ HasAnswer p g ys) [
    | inl c ↦ inl (h.0, c, h.2)
    | inr c ↦ inr (h.0, c, h.2)
  ]

  -- of one act
  has_one : (act : LinkAct) → HasAnswer p g (act ∷ []) → IsAnswered p g act
  has_one act h = subst (λ (x : LinkAct). IsAnswered p g x) (sym (in_one act h.0 h.1.0 h.1.1 h.1.2)) h.2

  step_not : (step : PipeStep) → IsAnswered p g (Step step) → ⊥
  step_not step (inl e) = (let x = e.1 in absurd cc)
  step_not step (inr e) = (let x = e.1 in absurd cc)

  says_not : (m : Frames) → IsAnswered p g (Wire (Repeats m)) → ⊥
  says_not m (inl e) = (let x = e.1 in absurd cc)
  says_not m (inr e) = (let x = e.1 in absurd cc)

  write_was : (a : LinkPut) (octets : List ℕ) → IsAnswered p g (Wire (Writes a octets)) → Some a ≡ Some p
  write_was a octets (inl e) = (let x = e.1 in let same : a ≡ p = cc in ap (λ (y : LinkPut). Some y) same)
  write_was a octets (inr e) = (let x = e.1 in absurd cc)

  read_was : (a : LinkGot) (octets : List ℕ) → IsAnswered p g (Wire (Reads a octets)) → Some a ≡ Some g
  read_was a octets (inl e) = (let x = e.1 in absurd cc)
  read_was a octets (inr e) = (let x = e.1 in let same : a ≡ g = cc in ap (λ (y : LinkGot). Some y) same)

  has_write : (put : Option LinkPut) (octets : List ℕ) → HasAnswer p g (write_acts put octets) → put ≡ Some p
  has_write None octets h = in_none h.0 h.1
  has_write (Some a) octets h = write_was a octets (has_one (Wire (Writes a octets)) h)

  has_read : (got : Option LinkGot) (octets : List ℕ) → HasAnswer p g (read_acts got octets) → got ≡ Some g
  has_read None octets h = in_none h.0 h.1
  has_read (Some a) octets h = read_was a octets (has_one (Wire (Reads a octets)) h)

  has_next : (pipe : PipeId) (next : Next) → HasAnswer p g (next_acts pipe next) → ⊥
  has_next pipe (Takes None) h = in_none h.0 h.1
  has_next pipe (Takes (Some x)) h = step_not (take_step pipe x) (has_one (Step (take_step pipe x)) h)
  has_next pipe (Says None) h = in_none h.0 h.1
  has_next pipe (Says (Some m)) h = says_not m (has_one (Wire (Repeats m)) h)

  has_put : (pipe : PipeId) (ms : List Frames) (full : Bool) → HasAnswer p g (put_acts pipe ms full) → ⊥
  has_put pipe [] false h = in_none h.0 h.1
  has_put pipe [] true h = step_not (FullLook pipe) (has_one (Step (FullLook pipe)) h)
  has_put pipe (m ∷ ms) full h = elim (has_on (Step (Commit pipe m) ∷ []) (put_acts pipe ms full) h) as (λ _. ⊥) [
    | inl k ↦ step_not (Commit pipe m) (has_one (Step (Commit pipe m)) k)
    | inr k ↦ has_put pipe ms full k
  ]

-- ---- counts

-- a count that rose by now has risen later on
rose_later : {A : Type 0} (a b c : ℕ) → b ≤ c → RoseIf a b A → RoseIf a c A
rose_later a b c more r = record { kept = le_trans r.kept more; rose = λ x. le_trans (r.rose x) more }

-- and one that rose since then has risen from where it was before
rose_since : {A : Type 0} (a b c : ℕ) → a ≤ b → RoseIf b c A → RoseIf a c A
rose_since a b c more r = record {
  kept = le_trans more r.kept;
  rose = λ x.
      let below : a + 1 ≤ b + 1 = omega (arith, more) in
      le_trans (le-min (le_trans (min-le_left (a + 1) (2 ^ 64 - 1)) below) (min-le_right (a + 1) (2 ^ 64 - 1))) (r.rose x);
}

-- one that rose where one or the other was answered
rose_on : {A B C : Type 0} (a b c : ℕ) → (C → A ⊎ B) → RoseIf a b A → RoseIf b c B → RoseIf a c C
rose_on a b c one x y = record {
  kept = le_trans x.kept y.kept;
  rose = λ k. elim (one k) as (λ _. Rose a c) [ inl p ↦ (rose_later a b c y.kept x).rose p | inr q ↦ (rose_since a b c x.kept y).rose q ];
}

-- ---- what is shown

rose_by : {A B : Type 0} (a b : ℕ) → (B → A) → RoseIf a b A → RoseIf a b B
rose_by a b f r = record { kept = r.kept; rose = λ x. r.rose (f x) }

rose_not : {A : Type 0} (a : ℕ) → (A → ⊥) → RoseIf a a A
rose_not a never = record { kept = (omega arith); rose = λ x. absurd (never x) }

-- by no write and no read
shown_not : (acts : List LinkAct) (f s e : ℕ) → ((p : LinkPut) (g : LinkGot) → HasAnswer p g acts → ⊥) → AreShown acts f f s s e e
shown_not acts f s e never = record {
  failed = rose_not f (never link_put.Failed link_got.Failed);
  stalled = rose_not s (never link_put.NotReady link_got.NotReady);
  ended = rose_not e (never link_put.Ended link_got.Ended);
}

pub shown_none : (f s e : ℕ) → AreShown [] f f s s e e
shown_none f s e = shown_not [] f s e (λ p g h. in_none h.0 h.1)

pub shown_puts : (pipe : PipeId) (f s e : ℕ) (ms : List Frames) (full : Bool) → AreShown (put_acts pipe ms full) f f s s e e
shown_puts pipe f s e ms full = shown_not (put_acts pipe ms full) f s e (λ p g. has_put p g pipe ms full)

shown_next : (pipe : PipeId) (next : Next) (f s e : ℕ) → AreShown (next_acts pipe next) f f s s e e
shown_next pipe next f s e = shown_not (next_acts pipe next) f s e (λ p g. has_next p g pipe next)

module _ (f g s t e n : ℕ) where
  pub shown_write : (put : Option LinkPut) → WriteCounts put f g s t e n → (octets : List ℕ) → AreShown (write_acts put octets) f g s t e n
  shown_write put w octets = record {
    failed = rose_by f g (has_write link_put.Failed link_got.Failed put octets) w.failed;
    stalled = rose_by s t (has_write link_put.NotReady link_got.NotReady put octets) w.stalled;
    ended = rose_by e n (has_write link_put.Ended link_got.Ended put octets) w.ended;
  }

  pub shown_read : (got : Option LinkGot) → ReadCounts got f g s t e n → (octets : List ℕ) → AreShown (read_acts got octets) f g s t e n
  shown_read got r octets = record {
    failed = rose_by f g (has_read link_put.Failed link_got.Failed got octets) r.failed;
    stalled = rose_by s t (has_read link_put.NotReady link_got.NotReady got octets) r.stalled;
    ended = rose_by e n (has_read link_put.Ended link_got.Ended got octets) r.ended;
  }

-- one behind the other
pub shown_on : (f g h s t u e n d : ℕ) (xs ys : List LinkAct) → AreShown xs f g s t e n → AreShown ys g h t u n d → AreShown (xs ++ ys) f h s u e d
shown_on f g h s t u e n d xs ys x y = record {
  failed = rose_on f g h (has_on link_put.Failed link_got.Failed xs ys) x.failed y.failed;
  stalled = rose_on s t u (has_on link_put.NotReady link_got.NotReady xs ys) x.stalled y.stalled;
  ended = rose_on e n d (has_on link_put.Ended link_got.Ended xs ys) x.ended y.ended;
}

-- ---- of the parts of a turn

module _ (f g s t e n : ℕ) (put : Option LinkPut) (w : WriteCounts put f g s t e n) where
  pub shown_writing : (pipe : PipeId) (octets : List ℕ) (next : Next) → AreShown (writing put octets pipe next) f g s t e n
  shown_writing pipe octets next = shown_on f g g s t t e n n (write_acts put octets) (next_acts pipe next) (shown_write f g s t e n put w octets) (shown_next pipe next g t n)

  -- with a message that was taken
  pub shown_taking : (pipe : PipeId) (octets : List ℕ) (m : Frames) → AreShown (write_acts put octets ++ Step (Take pipe m) ∷ []) f g s t e n
  shown_taking pipe octets m =
      shown_on f g g s t t e n n (write_acts put octets) (Step (Take pipe m) ∷ []) (shown_write f g s t e n put w octets)
      (shown_not (Step (Take pipe m) ∷ []) g t n (λ p q h. step_not p q (Take pipe m) (has_one p q (Step (Take pipe m)) h)))

-- with puts behind a read
pub shown_reading : (f g s t e n : ℕ) (pipe : PipeId) (got : Option LinkGot) → ReadCounts got f g s t e n → (octets : List ℕ) (ms : List Frames) (full : Bool) → AreShown (reading got octets pipe ms full) f g s t e n
shown_reading f g s t e n pipe got r octets ms full =
    shown_on f g g s t t e n n (read_acts got octets) (put_acts pipe ms full) (shown_read f g s t e n got r octets) (shown_puts pipe g t n ms full)

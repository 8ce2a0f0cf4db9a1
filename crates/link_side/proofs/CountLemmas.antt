-- What the counts of a link and of a host show of one call, and what a link tells of it.
use Rattle.std.proofs.Common.{◌≡◌, ℕ, List, Option, Some, None, sym, ap, ◌∙◌, arith}
use Rattle.std.proofs.lemmas.List.{append-nil}
use Rattle.zq_outer.specs.Count.{RoseIf}
use Rattle.zq_outer.specs.Link.{Says}
use Rattle.zq_outer.specs.declared.link.LinkGot.{LinkGot}
use Rattle.zq_outer.specs.declared.link.LinkGot.TheVariants as got
use Rattle.zq_outer.specs.declared.link.LinkPut.{LinkPut}
use Rattle.zq_outer.specs.declared.link.LinkPut.TheVariants as put
use Rattle.spec_link.specs.LinkAct.{Linked, NotReady, Failed}
use Rattle.link_side.specs.Calls.{Adds, ReadCounts, WriteCounts, octets_put}
use Rattle.link_side.specs.Dials.{HostCounts}

same_got : (a b : LinkGot) → Some a ≡ Some b → a ≡ b
same_got a b e = cc

same_put : (a b : LinkPut) → Some a ≡ Some b → a ≡ b
same_put a b e = cc

pub read_counted : (a : LinkGot) (f f' s s' e e' : ℕ) → RoseIf f f' (a ≡ got.Failed) → RoseIf s s' (a ≡ got.NotReady) → RoseIf e e' (a ≡ got.Ended) → ReadCounts (Some a) f f' s s' e e'
read_counted a f f' s s' e e' failed stalled ended = record {
  failed = record { kept = failed.kept; rose = λ x. failed.rose (same_got a got.Failed x) };
  stalled = record { kept = stalled.kept; rose = λ x. stalled.rose (same_got a got.NotReady x) };
  ended = record { kept = ended.kept; rose = λ x. ended.rose (same_got a got.Ended x) };
}

pub write_counted : (a : LinkPut) (f f' s s' e e' : ℕ) → RoseIf f f' (a ≡ put.Failed) → RoseIf s s' (a ≡ put.NotReady) → RoseIf e e' (a ≡ put.Ended) → WriteCounts (Some a) f f' s s' e e'
write_counted a f f' s s' e e' failed stalled ended = record {
  failed = record { kept = failed.kept; rose = λ x. failed.rose (same_put a put.Failed x) };
  stalled = record { kept = stalled.kept; rose = λ x. stalled.rose (same_put a put.NotReady x) };
  ended = record { kept = ended.kept; rose = λ x. ended.rose (same_put a put.Ended x) };
}

-- and where none was made
pub read_uncounted : (f s e : ℕ) → ReadCounts None f f s s e e
read_uncounted f s e = record {
  failed = record { kept = (omega arith); rose = λ x. absurd cc };
  stalled = record { kept = (omega arith); rose = λ x. absurd cc };
  ended = record { kept = (omega arith); rose = λ x. absurd cc };
}

-- what those of a host show of each answer
pub linked_counted : {A B : Type 0} (f f' s s' : ℕ) → RoseIf f f' A → RoseIf s s' B → HostCounts (Some Linked) f f' s s'
linked_counted f f' s s' x y = record {
  failed = record { kept = x.kept; rose = λ e. absurd cc };
  stalled = record { kept = y.kept; rose = λ e. absurd cc };
}

pub stalled_counted : {A B : Type 0} (f f' s s' : ℕ) → RoseIf f f' A → RoseIf s s' B → B → HostCounts (Some NotReady) f f' s s'
stalled_counted f f' s s' x y b = record {
  failed = record { kept = x.kept; rose = λ e. absurd cc };
  stalled = record { kept = y.kept; rose = λ _. y.rose b };
}

pub failed_counted : {A B : Type 0} (f f' s s' : ℕ) → RoseIf f f' A → RoseIf s s' B → A → HostCounts (Some Failed) f f' s s'
failed_counted f f' s s' x y a = record {
  failed = record { kept = x.kept; rose = λ _. x.rose a };
  stalled = record { kept = y.kept; rose = λ e. absurd cc };
}

-- what a write took is added to what the link tells
pub told_put : (a : LinkPut) (said said' : Option (List ℕ)) (piece : List ℕ) → Says said said' a piece → Adds said (octets_put a piece) said'
told_put a None said' piece e = e
told_put (put.Took n) (Some l) said' piece e = e
told_put put.NotReady (Some l) said' piece e = e ∙ ap Some (sym (append-nil l))
told_put put.Ended (Some l) said' piece e = e ∙ ap Some (sym (append-nil l))
told_put put.Failed (Some l) said' piece e = e ∙ ap Some (sym (append-nil l))

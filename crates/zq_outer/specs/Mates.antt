-- Two ends of a link in memory: what each tells, and which belong together (own choice).
use Rattle.std.specs.Prelude.{◌≡◌, ℕ, ◌+◌, List, ◌++◌, length, Option, option_map}
use mathlib.Core.List.{IsPrefix}
use Rattle.rtrb.specs.Ring.{sent, received, known_items, IsPair, SameProducer, SameConsumer}
use Rattle.zq_outer.specs.declared.mem_link.MemLink.{MemLink}

-- all octets that an end read, and all that it wrote
abbrev pub heard_at : MemLink → List ℕ
heard_at l = received l.from

abbrev pub said_at : MemLink → List ℕ
said_at l = sent l.to

-- the octets that an end has seen waiting for it, which its next reads give
abbrev pub waiting_at : MemLink → List ℕ
waiting_at l = known_items l.from

-- after how many octets that it wrote an end is cut
abbrev pub cut_at : MemLink → Option ℕ
cut_at l = option_map (λ left. length (said_at l) + left) l.left

-- what one writes the other reads
pub record AreMates (a b : MemLink) : Type 0 where
  pub there : IsPair a.to b.from
  pub back : IsPair b.to a.from

-- it is still the same end of the same link by the same plan, and nothing that came to it is lost
pub record IsSameEnd (a b : MemLink) : Type 0 where
  pub to : SameProducer a.to b.to
  pub from : SameConsumer a.from b.from
  pub calls : b.calls ≡ a.calls
  pub most : b.most ≡ a.most
  pub came : IsPrefix (heard_at a ++ waiting_at a) (heard_at b ++ waiting_at b)

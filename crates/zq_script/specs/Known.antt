-- What the reader keeps of the lines that it has read (own choice).
use Rattle.std.specs.Prelude.{◌≡◌, ℕ, List, Option}
use Rattle.std.specs.BTreeMap.{get_by}
use Rattle.std.specs.Cmp.Lexicographic.{slice_cmp}
use Rattle.std.specs.Ordering.{nat_cmp}
use Rattle.zq_script.specs.declared.known.Known.{Known}
use Rattle.zq_script.specs.Statement.{Learned}

-- the number that is kept for this name
abbrev pub kept_socket : Known → List ℕ → Option ℕ
kept_socket known word = get_by (λ key. slice_cmp nat_cmp word key.items) known.sockets

-- what is kept is what the earlier lines have made known
pub record HasLearned (known : Known) (learned : Learned) : Type 0 where
  pub actors : known.actors.items ≡ learned.actors
  pub sockets : (word : List ℕ) → kept_socket known word ≡ learned.sockets word
  pub count : known.count ≡ learned.count

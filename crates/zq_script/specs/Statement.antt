-- What the lines so far have made known, and what one more adds (own choice).
use Rattle.std.specs.Prelude.{◌+◌, ◌++◌, ℕ, Bool, List, [], ◌∷◌, Option, Some, None, if◌then◌else◌}
use Rattle.std.specs.List.{list_any}
use Rattle.std.specs.Str.{bytes_eq}
use Rattle.zq_script.specs.declared.statement.Statement.{Statement}
use Rattle.zq_script.specs.declared.statement.Statement.TheVariants.{Actor, Socket, Closed, Other}

-- the names of the actors that have begun, in order; which socket of the last actor has a name, counted from 0, if it isn't closed; and how many sockets that actor has named
pub record Learned : Type 0 where
  pub actors : List (List ℕ)
  pub sockets : List ℕ → Option ℕ
  pub count : ℕ

-- before the first line
unfoldable pub nothing_learned : Learned
nothing_learned = record { actors = []; sockets = λ word. None; count = 0 }

-- an actor of this name begins, with no socket
unfoldable pub with_actor : List ℕ → Learned → Learned
with_actor name learned = record { actors = learned.actors ++ name ∷ []; sockets = λ word. None; count = 0 }

-- the last actor names one more socket
unfoldable pub with_socket : List ℕ → Learned → Learned
with_socket name learned = record learned {
  sockets = λ word. if bytes_eq name word then Some learned.count else learned.sockets word;
  count = learned.count + 1;
}

-- the socket of this name is closed, and has it no longer
unfoldable pub without_socket : List ℕ → Learned → Learned
without_socket name learned = record learned { sockets = λ word. if bytes_eq name word then None else learned.sockets word }

-- behind what a line says
abbrev pub learned_with : Statement → Learned → Learned
learned_with (Actor name) learned = with_actor name learned
learned_with (Socket name line) learned = with_socket name learned
learned_with (Closed name line) learned = without_socket name learned
learned_with (Other line) learned = learned

-- behind a line that may be skipped
abbrev pub learned_behind : Option Statement → Learned → Learned
learned_behind None learned = learned
learned_behind (Some statement) learned = learned_with statement learned

-- an actor of this name has begun
abbrev pub is_actor : List ℕ → Learned → Bool
is_actor word learned = list_any (λ name. bytes_eq name word) learned.actors

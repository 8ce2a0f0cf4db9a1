-- What tells of a call tells of it whatever its parts are called.
use Rattle.std.specs.Prelude.{◌≡◌, ◌++◌, ℕ, false, List, [], Option, refl}
use Rattle.std.proofs.Common.{sym, ap, ◌∙◌, subst}
use Rattle.spec_pattern.specs.declared.answers.Skip.{Skip}
use Rattle.spec_run.specs.declared.answer.Answer.{Answer}
use Rattle.spec_run.specs.declared.script.Call.{Call}
use Rattle.spec_run.specs.Event.{acts_said}
use Rattle.msg_pipe.specs.Known.{Known}
use Rattle.desk.specs.declared.given.Given.{Given}
use Rattle.any_sock.specs.declared.any_sock.AnySock.{AnySock}
use Rattle.sock_core.specs.declared.sock.SockCore.{SockCore}
use Rattle.line_calls.specs.Lines.{CallsLine}
use Rattle.line_calls.specs.Steps.{LeadsSome, ClosesOpen}
use Rattle.plain_desk.specs.Lent.{Lent}
use Rattle.line_socket.specs.Owned.{LentParts, parts, view_of}
use Rattle.line_socket.specs.Leads.{Leads}
use Rattle.zq_world.specs.declared.marks.PieceMark.{PieceMark}
use Rattle.zq_world.specs.Marks.{piece_marks}
use Rattle.plain_core.specs.Calling.{TellsActs, TellsClose, TellsLine}

module _ {W N O I S T : Type 0} where
  -- parts that are the same
  pub same_parts : (pipes : S) (d e : Lent (Given N O I) N T) → d ≡ e → (s t : Option (SockCore AnySock W N O I)) → s ≡ t → (xs ys : List (Unit {0} × Unit {0})) → xs ≡ ys → parts pipes d s xs ≡ parts pipes e t ys
  same_parts pipes d e desk s t socket xs ys since =
      ap (λ (x : Lent (Given N O I) N T). parts pipes x s xs) desk
      ∙ ap (λ (x : Option (SockCore AnySock W N O I)). parts pipes e x xs) socket
      ∙ ap (λ (x : List (Unit {0} × Unit {0})). parts pipes e t x) since

module _ {W N O I S T : Type 0} (K : Known S O I N) (k : ℕ) (old new was now : LentParts W N O I S T) (from : was ≡ old) (to : now ≡ new) where
  pub acts_as : (marks : List PieceMark) → TellsActs K k old new marks → TellsActs K k was now marks
  acts_as marks tells =
      subst (λ (l : LentParts W N O I S T). TellsActs K k l now marks) (sym from)
      (subst (λ (l : LentParts W N O I S T). TellsActs K k old l marks) (sym to) tells)

  pub close_as : (marks : List PieceMark) → TellsClose K k old new marks → TellsClose K k was now marks
  close_as marks tells =
      subst (λ (l : LentParts W N O I S T). TellsClose K k l now marks) (sym from)
      (subst (λ (l : LentParts W N O I S T). TellsClose K k old l marks) (sym to) tells)

  module _ (asks asked : Call) (line : asked ≡ asks) (answer answered : Answer) (reply : answered ≡ answer) (told before : List Skip) (first : before ≡ told) (told_now behind : List Skip) (last : behind ≡ told_now) where
    pub line_as : (marks : List PieceMark) → TellsLine K k asks answer told told_now old new marks → TellsLine K k asked answered before behind was now marks
    line_as marks tells =
        subst (λ (l : LentParts W N O I S T). TellsLine K k asked answered before behind l now marks) (sym from)
        (subst (λ (l : LentParts W N O I S T). TellsLine K k asked answered before behind old l marks) (sym to)
        (subst (λ (x : Call). TellsLine K k x answered before behind old new marks) (sym line)
        (subst (λ (x : Answer). TellsLine K k asks x before behind old new marks) (sym reply)
        (subst (λ (x : List Skip). TellsLine K k asks answer x behind old new marks) (sym first)
        (subst (λ (x : List Skip). TellsLine K k asks answer told x old new marks) (sym last) tells)))))

-- what tells of it
module _ {W N O I S T : Type 0} (K : Known S O I N) (k : ℕ) (old new : LentParts W N O I S T) where
  pub acts_tell : (some : LeadsSome (Leads K) old new) → TellsActs K k old new (piece_marks k false some.acts [])
  acts_tell some = record { some = some; are = refl }

  pub close_tells : (closes : ClosesOpen (Leads K) view_of old new) → TellsClose K k old new (piece_marks k false (acts_said closes.closed) [])
  close_tells closes = record { closes = closes; are = refl }

  pub line_tells : (asks : Call) (answer : Answer) (told told_now : List Skip) (called : CallsLine (Leads K) view_of asks answer told told_now old new) →
      TellsLine K k asks answer told told_now old new (piece_marks k false (called.pump ++ called.acts) called.skips)
  line_tells asks answer told told_now called = record { called = called; are = refl }

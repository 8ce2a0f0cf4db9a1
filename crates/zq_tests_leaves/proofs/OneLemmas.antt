-- A socket that had no end has the one that joined.
use Rattle.std.proofs.Common.{◌≡◌, ◌∙◌, ℕ, Bool, true, false, List, [], ◌∷◌, ◌++◌, ap, if◌then◌else◌}
use Rattle.zq_base.specs.declared.ids.EndId.{EndId}
use Rattle.spec_control.specs.declared.end.EndState.{EndState}
use Rattle.spec_control.specs.declared.end.EndState.TheVariants.{AckSent}
use Rattle.spec_control.specs.Control.{is_end}
use Rattle.spec_control.specs.Place.{At}
use Rattle.spec_control.specs.Held.{Held}
use Rattle.desk.specs.Holding.{Holding, Joined, IsLast, Seals, Stays, TurnsTo, has_end}
use Rattle.desk.specs.Lent.{has_writer}
use Rattle.zq_tests_leaves.specs.Ends.{the_end, HasOne}

module _ (x : Held ℕ) (m k : Holding ℕ) (joined : Joined 1 x m k) (same : x.end ≡ the_end) where
  pub one_of : (written read : ℕ) → x.written ≡ written → x.read ≡ read → m.holds 1 ≡ true → m.ends 1 ≡ [] → HasOne written read k
  one_of written read w r holds none = record {
    holds = joined.now.objects 1 ∙ holds;
    ends =
        joined.now.ends ∙ ap (λ (l : List (Held ℕ)). l ++ x ∷ []) none
        ∙ ap (λ (e : EndId). let y : Held ℕ = record { end = e; written = x.written; read = x.read } in y ∷ []) same
        ∙ ap (λ (n : ℕ). let y : Held ℕ = record { end = the_end; written = n; read = x.read } in y ∷ []) w
        ∙ ap (λ (n : ℕ). let y : Held ℕ = record { end = the_end; written = written; read = n } in y ∷ []) r;
  }

-- it is the last
pub last_of : (written read : ℕ) (h : Holding ℕ) → HasOne written read h → (e : EndId) → e ≡ the_end → IsLast e (h.ends 1)
last_of written read h one e same = record {
  before = [];
  last = record { end = the_end; written = written; read = read };
  are = one.ends;
  end = ap (λ (d : EndId). is_end d the_end) same;
}

-- one that acknowledged has no writing half in its state, and its pipe was sealed
pub acked : (written read : ℕ) (h m k : Holding ℕ) → HasOne written read h → (e d f : EndId) → e ≡ the_end → f ≡ the_end → Stays 1 h m → TurnsTo e AckSent h m → Stays 1 m k → Seals d m k → has_writer (At (k.state f)) ≡ false
acked written read h m k one e d f is is_too first turns second seals =
    ap (λ (x : EndId). has_writer (At (k.state x))) is_too
    ∙ ap (λ (s : EndState). has_writer (At s))
    (seals.states 1 the_end (ap (has_end the_end) (second.now.ends ∙ first.now.ends ∙ one.ends))
    ∙ turns.states 1 the_end (ap (has_end the_end) (first.now.ends ∙ one.ends))
    ∙ ap (λ (b : Bool). if b then AckSent else h.state the_end) (ap (is_end the_end) is))

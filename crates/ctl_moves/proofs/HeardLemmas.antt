-- Whether an object that tries to end has ended then, and what its holder hears of it.
use Rattle.std.specs.Prelude.{◌≡◌, ◌&&◌, ℕ, Bool, true, false, not, if◌then◌else◌, refl, ◌≢◌, ◌++◌, ◌∷◌, [], List}
use Rattle.std.proofs.Common.{ap, ◌∙◌, sym, append_assoc}
use Rattle.spec_control.specs.Stage.{has_ended}
use Rattle.spec_control.specs.Row.{Row}
use Rattle.spec_control.specs.Rows.{Rows, may_end, obj}
use Rattle.spec_control.specs.Control.{Control, finish, try_end, with_value}
use Rattle.desk.specs.Heard.{ends_between, unless_root, over_if, term_with}
use Rattle.ctl_moves.proofs.KeepLemmas.{ended_now, left_alone}
use Rattle.std.proofs.lemmas.Bool.{eq-eqb, ne_eqb}
use Rattle.std.proofs.lemmas.List.{append-nil}
use Rattle.zq_base.specs.declared.ids.ObjId.{ObjId}
use Rattle.desk.specs.declared.notice.Notice.{Notice}
use Rattle.desk.specs.declared.notice.Notice.TheVariants as notice
use Rattle.desk.specs.Holding.{Holding, IsTold, has_end}

-- one that lived ends where it can, unless it has output left
pub end_between : (i : ℕ) (left : Bool) (was : Row) (c : Control) → has_ended was.stage ≡ false → has_ended (obj c.rows i).stage ≡ false → ends_between was (obj (try_end i left c).rows i) ≡ (not left && may_end c.rows i)
end_between i true was c lived lives = ap (λ (s : Rows). has_ended (obj s i).stage && not (has_ended was.stage)) (left_alone i c) ∙ ap (λ (x : Bool). x && not (has_ended was.stage)) lives
end_between i false was c lived lives = by (may_end c.rows i) refl
  where
    now : Control
    now = record c { output_left = with_value i false c.output_left }

    by : (b : Bool) → may_end c.rows i ≡ b → ends_between was (obj (try_end i false c).rows i) ≡ b
    by true is = ap (λ (x : Bool). x && not (has_ended was.stage)) (ended_now i false c is) ∙ ap not lived
    by false is =
        ap (λ (b : Bool). has_ended (obj (if b then finish i now else now).rows i).stage && not (has_ended was.stage)) is
        ∙ ap (λ (x : Bool). x && not (has_ended was.stage)) lives

-- ---- what the holder of an object hears of its end
module _ (o : ObjId) where
  -- of the root nothing
  root_hears : (ns : List Notice) → o.0 ≡ 0 → unless_root o ns ≡ []
  root_hears ns root = ap (λ (b : Bool). if b then [] else ns) (eq-eqb o.0 0 root)

  other_hears : (ns : List Notice) → o.0 ≢ 0 → unless_root o ns ≡ ns
  other_hears ns other = ap (λ (b : Bool). if b then [] else ns) (ne_eqb o.0 0 other)

  root_over : (ended : Bool) → o.0 ≡ 0 → over_if o ended ≡ []
  root_over true root = root_hears (notice.Over o ∷ []) root
  root_over false root = refl

  module _ (was now : List Notice) (ended : Bool) where
    pub term_root : o.0 ≡ 0 → was ≡ was ++ term_with o ended
    term_root root =
        sym (append-nil was)
        ∙ ap (λ (ns : List Notice). was ++ ns) (sym (ap (λ (ns : List Notice). ns ++ over_if o ended) (root_hears (notice.Term o ∷ []) root) ∙ root_over ended root))

    pub term_lives : o.0 ≢ 0 → ended ≡ false → now ≡ was ++ notice.Term o ∷ [] → now ≡ was ++ term_with o ended
    term_lives other lives told =
        told
        ∙ ap (λ (ns : List Notice). was ++ ns) (sym (ap (term_with o) lives ∙ append-nil (unless_root o (notice.Term o ∷ [])) ∙ other_hears (notice.Term o ∷ []) other))

    pub term_ends : (mid : List Notice) → o.0 ≢ 0 → ended ≡ true → mid ≡ was ++ notice.Term o ∷ [] → now ≡ mid ++ notice.Over o ∷ [] → now ≡ was ++ term_with o ended
    term_ends mid other is told over =
        over ∙ ap (λ (ns : List Notice). ns ++ notice.Over o ∷ []) told ∙ append_assoc was (notice.Term o ∷ []) (notice.Over o ∷ [])
        ∙ ap (λ (ns : List Notice). was ++ ns) (sym (ap (term_with o) is
        ∙ ap (λ (ns : List Notice). ns ++ unless_root o (notice.Over o ∷ [])) (other_hears (notice.Term o ∷ []) other)
        ∙ ap (λ (ns : List Notice). notice.Term o ∷ ns) (other_hears (notice.Over o ∷ []) other)))

module _ {N : Type 0} (o : ℕ) where
  pub is_told_not : (h : Holding N) → IsTold o h h
  is_told_not h = record {
    ends = λ i. refl;
    writes = λ d. refl;
    kinds = λ i. refl;
    objects = λ i other. refl;
    output = λ i other. refl;
    delimiters = λ e at. at;
    turns = record { states = λ i d has. refl; turns = refl; sealed = refl; joined = refl };
  }

  pub is_told_on : (h k l : Holding N) → IsTold o h k → IsTold o k l → IsTold o h l
  is_told_on h k l a b = record {
    ends = λ i. b.ends i ∙ a.ends i;
    writes = λ d. b.writes d ∙ a.writes d;
    kinds = λ i. b.kinds i ∙ a.kinds i;
    objects = λ i other. b.objects i other ∙ a.objects i other;
    output = λ i other. b.output i other ∙ a.output i other;
    delimiters = λ e at. b.delimiters e (a.delimiters e at);
    turns = record {
      states = λ i d has. b.turns.states i d has ∙ a.turns.states i d (ap (has_end d) (sym (b.ends i)) ∙ has);
      turns = b.turns.turns ∙ a.turns.turns;
      sealed = b.turns.sealed ∙ a.turns.sealed;
      joined = b.turns.joined ∙ a.turns.joined;
    };
  }

-- The ends of a bind's pairs joined their holder, and the last one is taken back.
use Rattle.std.specs.Prelude.{◌≡◌, ◌+◌, ◌++◌, ◌∷◌, [], ℕ, suc, List, length, refl}
use Rattle.std.proofs.Common.{arith, sym, ap, ◌∙◌}
use Rattle.std.proofs.lemmas.List.{append-nil, append_assoc, length_push}
use Rattle.zq_base.specs.declared.ids.EndId.{EndId}
use Rattle.spec_control.specs.declared.entry.Joining.{Joining}
use Rattle.desk.specs.Holding.{Holding, JoinsBy, TakesBack}
use Rattle.ctl_moves.specs.declared.batch.Drawn.{Drawn}
use Rattle.ctl_moves.specs.Batch.{drawn_ends, first_of}
use Rattle.ctl_moves.specs.Drawing.{HasJoinedMore}

module _ {N O I : Type 0} where
  -- a pair more was drawn
  pub drawn_more : (ds : List (Drawn N O I)) (d : Drawn N O I) → drawn_ends (ds ++ d ∷ []) ≡ first_of d ∷ drawn_ends ds
  drawn_more [] d = refl
  drawn_more (x ∷ ds) d = ap (λ (es : List EndId). es ++ first_of x ∷ []) (drawn_more ds d)

-- these before a last one
record EndsWith {A : Type 0} (xs : List A) : Type 0 where
  before : List A
  last : A
  are : xs ≡ before ++ last ∷ []
  many : length xs ≡ length before + 1

ends_with : {A : Type 0} (x : A) (xs : List A) → EndsWith (x ∷ xs)
ends_with x [] = record { before = []; last = x; are = refl; many = refl }
ends_with {A} x (y ∷ ys) = record {
  before = x ∷ (ends_with y ys).before;
  last = (ends_with y ys).last;
  are = ap (λ (l : List A). x ∷ l) (ends_with y ys).are;
  many = (let rest = (ends_with y ys).many in omega (arith, rest));
}

module _ {N : Type 0} (h k l : Holding N) where
  -- one end more joined
  pub came_more : (n : ℕ) (j : Joining N) → HasJoinedMore n h k → JoinsBy (j ∷ []) k l → HasJoinedMore (n + 1) h l
  came_more n j before one = record {
    more = before.more ++ j ∷ [];
    joined = one ∙ ap (λ (js : List (Joining N)). js ++ j ∷ []) before.joined ∙ append_assoc h.joined before.more (j ∷ []);
    count = (let many = length_push before.more j in let was = before.count in omega (arith, many, was));
  }

  -- the last is taken back
  pub came_less : (n : ℕ) → HasJoinedMore (n + 1) h k → TakesBack k l → HasJoinedMore n h l
  came_less n before back = less before.more before.joined before.count
    where
      less : (js : List (Joining N)) → k.joined ≡ h.joined ++ js → length js ≡ n + 1 → HasJoinedMore n h l
      less [] joined count = absurd (let no : 0 ≡ n + 1 = count in omega (arith, no))
      less (x ∷ xs) joined count =
          let e = ends_with x xs in
          record {
            more = e.before;
            joined = back (h.joined ++ e.before) e.last (joined ∙ ap (λ (js : List (Joining N)). h.joined ++ js) e.are ∙ sym (append_assoc h.joined e.before (e.last ∷ [])));
            count = (let many = e.many in let all = count in omega (arith, many, all));
          }

  -- nothing was told of
  pub came_still : (n : ℕ) → HasJoinedMore n h k → l.joined ≡ k.joined → HasJoinedMore n h l
  came_still n before same = record { more = before.more; joined = same ∙ before.joined; count = before.count }

-- none is left
pub came_none : {N : Type 0} (h k : Holding N) → HasJoinedMore 0 h k → k.joined ≡ h.joined
came_none h k came = none came.more came.joined came.count
  where
    none : (js : List (Joining _)) → k.joined ≡ h.joined ++ js → length js ≡ 0 → k.joined ≡ h.joined
    none [] joined count = joined ∙ append-nil h.joined
    none (x ∷ xs) joined count = absurd (let no : suc (length xs) ≡ 0 = count in omega (arith, no))

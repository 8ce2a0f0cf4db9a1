-- Lists that have the same in another order.
use Rattle.std.proofs.Common.{◌≡◌, ◌⊎◌, ◌||◌, ◌∙◌, Bool, true, false, List, [], ◌∷◌, ◌++◌, refl, sym, ap, subst, inl, inr}
use Rattle.std.specs.List.{list_any}
use Rattle.std.proofs.lemmas.List.{append-nil}
use Rattle.closed_ends.specs.Mixed.{Takes, AreMixed}
use Rattle.closed_ends.proofs.ListLemmas.{same_ends}

module _ {X : Type 0} where
  abbrev head_or : X → List X → X
  head_or d [] = d
  head_or d (x ∷ xs) = x

  abbrev tail_of : List X → List X
  tail_of [] = []
  tail_of (x ∷ xs) = xs

  -- one of a list that was put together stands in its first part, or in the last
  record InFirst (pre post before : List X) (x : X) (behind : List X) : Type 0 where
    pub mid : List X
    pub pre_is : pre ≡ before ++ x ∷ mid
    pub behind_is : behind ≡ mid ++ post

  record InLast (pre post before : List X) (x : X) (behind : List X) : Type 0 where
    pub mid : List X
    pub before_is : before ≡ pre ++ mid
    pub post_is : post ≡ mid ++ x ∷ behind

  split : (pre post before : List X) (x : X) (behind : List X) → pre ++ post ≡ before ++ x ∷ behind → InFirst pre post before x behind ⊎ InLast pre post before x behind
  split [] post before x behind e = inr (record { mid = before; before_is = refl; post_is = e })
  split (p ∷ pre) post [] x behind e = inl (record { mid = pre; pre_is = ap (λ (y : X). y ∷ pre) (ap (head_or p) e); behind_is = sym (ap tail_of e) })
  split (p ∷ pre) post (b ∷ before) x behind e = by (ap (head_or p) e) (split pre post before x behind (ap tail_of e))
    where
      by : p ≡ b → InFirst pre post before x behind ⊎ InLast pre post before x behind → InFirst (p ∷ pre) post (b ∷ before) x behind ⊎ InLast (p ∷ pre) post (b ∷ before) x behind
      by same (inl s) = inl (record { mid = s.mid; pre_is = ap (λ (l : List X). p ∷ l) s.pre_is ∙ ap (λ (y : X). y ∷ (before ++ x ∷ s.mid)) same; behind_is = s.behind_is })
      by same (inr s) = inr (record { mid = s.mid; before_is = ap (λ (y : X). y ∷ before) (sym same) ∙ ap (λ (l : List X). p ∷ l) s.before_is; post_is = s.post_is })

  pub mixed_self : (xs : List X) → AreMixed xs xs
  mixed_self [] = refl
  mixed_self (x ∷ xs) = (xs, record { before = []; behind = xs; are = refl; left = refl }, mixed_self xs)

  -- one more is put in anywhere
  pub mixed_between : (a b pre post : List X) (y : X) → AreMixed (a ++ b) (pre ++ post) → AreMixed (a ++ y ∷ b) (pre ++ y ∷ post)
  mixed_between [] b pre post y m = (pre ++ post, record { before = pre; behind = post; are = refl; left = refl }, m)
  mixed_between (x ∷ a) b pre post y m = by (λ p q n. mixed_between a b p q y n) (split pre post m.1.before x m.1.behind m.1.are)
    where
      by : ((p q : List X) → AreMixed (a ++ b) (p ++ q) → AreMixed (a ++ y ∷ b) (p ++ y ∷ q)) → InFirst pre post m.1.before x m.1.behind ⊎ InLast pre post m.1.before x m.1.behind → AreMixed (x ∷ (a ++ y ∷ b)) (pre ++ y ∷ post)
      by rest (inl s) = (
        (m.1.before ++ s.mid) ++ y ∷ post,
        record {
          before = m.1.before;
          behind = s.mid ++ y ∷ post;
          are = ap (λ (l : List X). l ++ y ∷ post) s.pre_is ∙ same_ends m.1.before (x ∷ s.mid) (y ∷ post);
          left = same_ends m.1.before s.mid (y ∷ post);
        },
        rest (m.1.before ++ s.mid) post (subst (AreMixed (a ++ b)) (m.1.left ∙ ap (λ (l : List X). m.1.before ++ l) s.behind_is ∙ sym (same_ends m.1.before s.mid post)) m.2),
      )
      by rest (inr s) = (
        pre ++ y ∷ (s.mid ++ m.1.behind),
        record {
          before = pre ++ y ∷ s.mid;
          behind = m.1.behind;
          are = ap (λ (l : List X). pre ++ y ∷ l) s.post_is ∙ sym (same_ends pre (y ∷ s.mid) (x ∷ m.1.behind));
          left = sym (same_ends pre (y ∷ s.mid) m.1.behind);
        },
        rest pre (s.mid ++ m.1.behind) (subst (AreMixed (a ++ b)) (m.1.left ∙ ap (λ (l : List X). l ++ m.1.behind) s.before_is ∙ same_ends pre s.mid m.1.behind) m.2),
      )

  -- one of the one is found in the other
  pub record FoundIn (xs pre : List X) (h : X) (post : List X) : Type 0 where
    pub before : List X
    pub behind : List X
    pub are : xs ≡ before ++ h ∷ behind
    pub left : AreMixed (before ++ behind) (pre ++ post)

  pub mixed_found : (xs ys pre : List X) (h : X) (post : List X) → AreMixed xs ys → ys ≡ pre ++ h ∷ post → FoundIn xs pre h post
  mixed_found [] ys pre h post m e = none pre (sym m ∙ e)
    where
      none : (l : List X) → [] ≡ l ++ h ∷ post → FoundIn [] pre h post
      none [] f = cc
      none (y ∷ l) f = cc
  mixed_found (x ∷ xs) ys pre h post m e = by (λ p q f. mixed_found xs m.0 p h q m.2 f) (split m.1.before (x ∷ m.1.behind) pre h post (sym m.1.are ∙ e))
    where
      first : ((p q : List X) → m.0 ≡ p ++ h ∷ q → FoundIn xs p h q) → InFirst m.1.before (x ∷ m.1.behind) pre h post → FoundIn (x ∷ xs) pre h post
      first rest s =
          let f = rest pre (s.mid ++ m.1.behind) (m.1.left ∙ ap (λ (l : List X). l ++ m.1.behind) s.pre_is ∙ same_ends pre (h ∷ s.mid) m.1.behind) in
          record {
            before = x ∷ f.before;
            behind = f.behind;
            are = ap (λ (l : List X). x ∷ l) f.are;
            left = (
              pre ++ (s.mid ++ m.1.behind),
              record {
                before = pre ++ s.mid;
                behind = m.1.behind;
                are = ap (λ (l : List X). pre ++ l) s.behind_is ∙ sym (same_ends pre s.mid (x ∷ m.1.behind));
                left = sym (same_ends pre s.mid m.1.behind);
              },
              f.left,
            );
          }

      last : ((p q : List X) → m.0 ≡ p ++ h ∷ q → FoundIn xs p h q) → (mid : List X) → pre ≡ m.1.before ++ mid → x ∷ m.1.behind ≡ mid ++ h ∷ post → FoundIn (x ∷ xs) pre h post
      last rest [] pre_is is = record {
        before = [];
        behind = xs;
        are = ap (λ (y : X). y ∷ xs) (ap (head_or x) is);
        left = subst (AreMixed xs) (m.1.left ∙ ap (λ (l : List X). m.1.before ++ l) (ap tail_of is) ∙ ap (λ (l : List X). l ++ post) (sym (append-nil m.1.before) ∙ sym pre_is)) m.2;
      }
      last rest (y ∷ mid) pre_is is =
          let f = rest (m.1.before ++ mid) post (m.1.left ∙ ap (λ (l : List X). m.1.before ++ l) (ap tail_of is) ∙ sym (same_ends m.1.before mid (h ∷ post))) in
          record {
            before = x ∷ f.before;
            behind = f.behind;
            are = ap (λ (l : List X). x ∷ l) f.are;
            left = (
              (m.1.before ++ mid) ++ post,
              record {
                before = m.1.before;
                behind = mid ++ post;
                are = ap (λ (l : List X). l ++ post) pre_is ∙ same_ends m.1.before (y ∷ mid) post ∙ ap (λ (z : X). m.1.before ++ z ∷ (mid ++ post)) (sym (ap (head_or x) is));
                left = same_ends m.1.before mid post;
              },
              f.left,
            );
          }

      by : ((p q : List X) → m.0 ≡ p ++ h ∷ q → FoundIn xs p h q) → InFirst m.1.before (x ∷ m.1.behind) pre h post ⊎ InLast m.1.before (x ∷ m.1.behind) pre h post → FoundIn (x ∷ xs) pre h post
      by rest (inl s) = first rest s
      by rest (inr s) = last rest s.mid s.before_is s.post_is

  -- the same behind both
  pub mixed_front : (xs ys zs : List X) → AreMixed xs ys → AreMixed (xs ++ zs) (ys ++ zs)
  mixed_front [] ys zs m = subst (λ (l : List X). AreMixed zs (l ++ zs)) (sym m) (mixed_self zs)
  mixed_front (x ∷ xs) ys zs m = (
    m.0 ++ zs,
    record {
      before = m.1.before;
      behind = m.1.behind ++ zs;
      are = ap (λ (l : List X). l ++ zs) m.1.are ∙ same_ends m.1.before (x ∷ m.1.behind) zs;
      left = ap (λ (l : List X). l ++ zs) m.1.left ∙ same_ends m.1.before m.1.behind zs;
    },
    mixed_front xs m.0 zs m.2,
  )

  any_between : (f : X → Bool) (before : List X) (x : X) (behind : List X) → list_any f (before ++ x ∷ behind) ≡ (f x || list_any f (before ++ behind))
  any_between f [] x behind = refl
  any_between f (y ∷ before) x behind = ap (λ (b : Bool). f y || b) (any_between f before x behind) ∙ turned (f y) (f x) (list_any f (before ++ behind))
    where
      turned : (a b c : Bool) → (a || (b || c)) ≡ (b || (a || c))
      turned true true c = refl
      turned true false c = refl
      turned false true c = refl
      turned false false c = refl

  -- what passes in the one does in the other
  pub mixed_any : (f : X → Bool) (xs ys : List X) → AreMixed xs ys → list_any f xs ≡ list_any f ys
  mixed_any f [] ys m = ap (list_any f) (sym m)
  mixed_any f (x ∷ xs) ys m =
      ap (λ (b : Bool). f x || b) (mixed_any f xs m.0 m.2 ∙ ap (list_any f) m.1.left)
      ∙ sym (ap (list_any f) m.1.are ∙ any_between f m.1.before x m.1.behind)

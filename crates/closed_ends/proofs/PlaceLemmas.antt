-- The place of an end that was found, and what stands there once the end changed or is gone.
use Rattle.std.proofs.Common.{◌≡◌, ◌∙◌, ◌<◌, ℕ, List, [], ◌∷◌, length, set, refl, sym, ap, subst}
use Rattle.std.specs.Prelude.{remove, slice_index_or, nat_eq}
use Rattle.std.specs.VecDeque.{deque_with_item}
use Rattle.indexmap.specs.IndexMap.{get}
use Rattle.zq_base.specs.declared.ids.EndId.{EndId}
use Rattle.desk.specs.declared.given.Given.{Given}
use Rattle.closed_ends.specs.declared.sockets.ClosedSocket.{ClosedSocket}
use Rattle.closed_ends.specs.declared.sockets.ClosedSockets.{ClosedSockets}
use Rattle.closed_ends.specs.Finding.{AreIndexed, FindsEnd}
use Rattle.closed_ends.proofs.FormLemmas.{AllAlone}
use Rattle.closed_ends.proofs.ListLemmas.{index_there, remove_there, set_there, within}
use Rattle.closed_ends.proofs.ChangeLemmas.{Replaces, alone_same, replaced}

module _ {N O I : Type 0} (o : ℕ) (e : EndId) (ss : List (ClosedSocket N O I)) (j k : ℕ) (f : FindsEnd o e ss j k) where
  abbrev s : ClosedSocket N O I
  s = f.its.one

  pub socket_there : j < length ss
  socket_there = subst (λ (l : List (ClosedSocket N O I)). j < length l) (sym f.its.are) (within f.its.before f.its.behind s j f.its.at)

  pub socket_is : (x : ClosedSocket N O I) → x ≡ slice_index_or ss j x → x ≡ f.its.one
  socket_is x is = is ∙ ap (λ (l : List (ClosedSocket N O I)). slice_index_or l j x) f.its.are ∙ index_there f.its.before f.its.behind s x j f.its.at

  pub end_is : (x : ClosedSocket N O I) → x ≡ slice_index_or ss j x → (g : Given N O I) → g ≡ slice_index_or x.ends.items k g → g ≡ f.here.one
  end_is x is g here =
      here ∙ ap (λ (y : ClosedSocket N O I). slice_index_or y.ends.items k g) (socket_is x is) ∙ ap (λ (l : List (Given N O I)). slice_index_or l k g) f.here.are
      ∙ index_there f.here.before f.here.behind f.here.one g k f.here.at

  -- the end changed
  pub changed : (x : ClosedSocket N O I) → x ≡ slice_index_or ss j x → (t : ClosedSocket N O I) (g : Given N O I) → t.number ≡ x.number → t.ends.items ≡ set x.ends.items k g → Replaces o e f.here.one (g ∷ []) ss (set ss j t)
  changed x is t g number ends =
      replaced o e ss j k f t (g ∷ []) (set ss j t) (number ∙ ap (λ (y : ClosedSocket N O I). y.number) (socket_is x is))
      (ends ∙ ap (λ (y : ClosedSocket N O I). set y.ends.items k g) (socket_is x is) ∙ ap (λ (l : List (Given N O I)). set l k g) f.here.are ∙ set_there f.here.before f.here.behind f.here.one g k f.here.at)
      (ap (λ (l : List (ClosedSocket N O I)). set l j t) f.its.are ∙ set_there f.its.before f.its.behind s t j f.its.at)

  -- or is gone
  pub removed : (x : ClosedSocket N O I) → x ≡ slice_index_or ss j x → (t : ClosedSocket N O I) → t.number ≡ x.number → t.ends.items ≡ remove x.ends.items k → Replaces o e f.here.one [] ss (set ss j t)
  removed x is t number ends =
      replaced o e ss j k f t [] (set ss j t) (number ∙ ap (λ (y : ClosedSocket N O I). y.number) (socket_is x is))
      (ends ∙ ap (λ (y : ClosedSocket N O I). remove y.ends.items k) (socket_is x is) ∙ ap (λ (l : List (Given N O I)). remove l k) f.here.are ∙ remove_there f.here.before f.here.behind f.here.one k f.here.at)
      (ap (λ (l : List (ClosedSocket N O I)). set l j t) f.its.are ∙ set_there f.its.before f.its.behind s t j f.its.at)

  -- no two sockets have one number still
  pub alone_still : (x : ClosedSocket N O I) → x ≡ slice_index_or ss j x → (t : ClosedSocket N O I) → t.number ≡ x.number → AllAlone ss → AllAlone (set ss j t)
  alone_still x is t number alone =
      subst AllAlone (sym (ap (λ (l : List (ClosedSocket N O I)). set l j t) f.its.are ∙ set_there f.its.before f.its.behind s t j f.its.at))
      (alone_same f.its.before f.its.behind s t (number ∙ ap (λ (y : ClosedSocket N O I). y.number) (socket_is x is)) (subst AllAlone f.its.are alone))

-- a socket with an end changed
abbrev pub with_end : {N O I : Type 0} → ClosedSocket N O I → ℕ → Given N O I → ClosedSocket N O I
with_end x k g = record { number = x.number; ends = deque_with_item x.ends k g }

module _ {N O I : Type 0} (o : ℕ) (e : EndId) (ss : List (ClosedSocket N O I)) (j k : ℕ) (f : FindsEnd o e ss j k) (x : ClosedSocket N O I) (is : x ≡ slice_index_or ss j x) where
  module _ (g : Given N O I) (here : g ≡ slice_index_or x.ends.items k g) where
    pub at_stays : Replaces o e g (g ∷ []) ss ss
    at_stays = subst (λ (y : Given N O I). Replaces o e y (y ∷ []) ss ss) (sym (end_is o e ss j k f x is g here)) (replaced o e ss j k f f.its.one (f.here.one ∷ []) ss refl f.here.are f.its.are)

    pub at_changed : (h : Given N O I) → Replaces o e g (h ∷ []) ss (set ss j (with_end x k h))
    at_changed h = subst (λ (y : Given N O I). Replaces o e y (h ∷ []) ss (set ss j (with_end x k h))) (sym (end_is o e ss j k f x is g here)) (changed o e ss j k f x is (with_end x k h) h refl refl)

    pub at_removed : (t : ClosedSocket N O I) → t.number ≡ x.number → t.ends.items ≡ remove x.ends.items k → Replaces o e g [] ss (set ss j t)
    at_removed t number items = subst (λ (y : Given N O I). Replaces o e y [] ss (set ss j t)) (sym (end_is o e ss j k f x is g here)) (removed o e ss j k f x is t number items)

  pub alone_at : (t : ClosedSocket N O I) → t.number ≡ x.number → AllAlone ss → AllAlone (set ss j t)
  alone_at t number alone = alone_still o e ss j k f x is t number alone

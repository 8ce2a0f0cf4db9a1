-- The steps past stand with the step of a look at a closed socket's pipe.
use Rattle.std.proofs.Common.{◌≡◌, ◌∙◌, ◌||◌, ℕ, Bool, true, false, List, [], ◌∷◌, ◌++◌, Option, Some, refl, sym, ap, subst, append-nil}
use Rattle.std.proofs.lemmas.List.Elements.{filter_map-append}
use Rattle.std.proofs.lemmas.List.Folds.{list_any-append}
use Rattle.zq_base.specs.Message.{Frames}
use Rattle.zq_base.specs.Ends.{PipeId}
use Rattle.spec_pattern.specs.PipeStep.{PipeStep, same_pipe, committed_by, taken_by, sealed_by, committed_to, taken_from, sealed_in, read_through}
use Rattle.spec_pattern.specs.Half.{Writing, Reading}
use Rattle.spec_pattern.proofs.Exact.{same_pipes}
use Rattle.msg_pipe.specs.Known.{Known, IsThere, KeepsButIn, SeesCommits}
use Rattle.msg_pipe.specs.Told.{FrontFinds, SeesAll, front_step}
use Rattle.msg_pipe.specs.declared.pipes.Front.{Front}
use Rattle.msg_pipe.specs.declared.pipes.Front.TheVariants.{Message, Empty, Delimiter}
use Rattle.end_table.specs.Runs.{InDoes, front_at}
use Rattle.end_table.specs.Past.{OneName, Stands, IsPast}
use Rattle.end_table.proofs.StepLemmas.{own_pipe, or_false, in_follows, exact_more}
use Rattle.end_table.proofs.SoundLemmas.{one_some}
use Rattle.closed_ends.specs.Looking.{LooksGoOn}
use Rattle.closed_ends.proofs.ListLemmas.{never}

-- what a look does and takes, of its pipe and of others
look_does : (p : PipeId) (found : Front) (v w : Reading) → FrontFinds v found w → InDoes p (front_step p found) v w
look_does p Message v w h = (refl, h)
look_does p Empty v w h = (refl, h)
look_does p Delimiter v w h = (refl, h)

look_at : (p : PipeId) (found : Front) → front_at (front_step p found) ≡ found
look_at p Message = refl
look_at p Empty = refl
look_at p Delimiter = refl

look_keeps : (found : Front) (v w : Reading) → FrontFinds v found w → w.taken ≡ v.taken
look_keeps Message v w h = h.taken
look_keeps Empty v w h = h.taken
look_keeps Delimiter v w h = h.taken

look_takes : (q p : PipeId) (found : Front) → (committed_to q (front_step p found ∷ []) ≡ []) × ((taken_from q (front_step p found ∷ []) ≡ []) × (sealed_in q (front_step p found ∷ []) ≡ false))
look_takes q p Message = (refl, (refl, refl))
look_takes q p Empty = (refl, (refl, refl))
look_takes q p Delimiter = (refl, (refl, refl))

module _ {S O I N : Type 0} (K : Known S O I N) (is_exact : K.exact ≡ true) (one_in : (s : S) (i j : I) → K.in_name i ≡ K.in_name j → K.reading s i ≡ K.reading s j)
    (goes : PipeId → Option N) (capacity : PipeId → ℕ) (one : OneName goes) (old new : S) (past : List PipeStep) (p : PipeId) (lent back : I) (found : Front) (named : goes p ≡ Some (K.in_name lent))
    (finds : FrontFinds (K.reading old lent) found (K.reading new back)) (exact : SeesCommits K lent back found old new) (keeps : KeepsButIn K lent back old new) (is : IsPast K goes capacity old past) where
  -- what each half has taken is as it was
  same_taken : (q : PipeId) (n : N) → goes q ≡ Some n → (i : I) → K.in_name i ≡ n → IsThere K old n → (b : Bool) → same_pipe q p ≡ b → (K.reading new i).taken ≡ (K.reading old i).taken
  same_taken q n g i name there true e =
      let same : K.in_name i ≡ K.in_name lent = name ∙ one_some n (K.in_name lent) (sym g ∙ ap goes (same_pipes q p e) ∙ named) in
      ap (λ (r : Reading). r.taken) (one_in new i back (same ∙ sym keeps.name_is)) ∙ look_keeps found (K.reading old lent) (K.reading new back) finds ∙ ap (λ (r : Reading). r.taken) (sym (one_in old i lent same))
  same_taken q n g i name there false e =
      ap (λ (r : Reading). r.taken) (keeps.ins i (subst (IsThere K old) (sym name) there) (λ ex same.
      let is_p : q ≡ p = one q p n g (named ∙ ap Some (sym same ∙ name)) in
      never (sym (own_pipe p) ∙ ap (λ (x : PipeId). same_pipe x p) (sym is_p) ∙ e)))

  stands : (q : PipeId) (n : N) → goes q ≡ Some n → Stands K goes capacity new (past ++ front_step p found ∷ []) q n
  stands q n g =
      let was = is.stands q n g in
      let none = look_takes q p found in
      let writes = keeps.outs was.out (subst (IsThere K old) (sym was.out_is) was.there) in
      record {
        out = was.out;
        input = was.input;
        out_is = was.out_is;
        in_is = was.in_is;
        there = keeps.there n was.there;
        committed = ap (λ (w : Writing). w.committed) writes ∙ was.committed ∙ sym (append-nil (committed_to q past)) ∙ ap (λ (l : List Frames). committed_to q past ++ l) (sym none.0) ∙ sym (filter_map-append (committed_by q) past (front_step p found ∷ []));
        taken = same_taken q n g was.input was.in_is was.there (same_pipe q p) refl ∙ was.taken ∙ sym (append-nil (taken_from q past)) ∙ ap (λ (l : List Frames). taken_from q past ++ l) (sym none.1.0) ∙ sym (filter_map-append (taken_by q) past (front_step p found ∷ []));
        capacity_is = ap (λ (w : Writing). w.capacity) writes ∙ was.capacity_is;
        sealed_is = ap (λ (w : Writing). w.sealed) writes ∙ was.sealed_is ∙ sym (or_false (sealed_in q past)) ∙ ap (λ (b : Bool). sealed_in q past || b) (sym none.1.1) ∙ sym (list_any-append (sealed_by q) past (front_step p found ∷ []));
      }

  pub look_goes_on : IsPast K goes capacity new (past ++ front_step p found ∷ [])
  look_goes_on =
      let was = is.stands p (K.in_name lent) named in
      let same = one_in old was.input lent was.in_is in
      record {
        stands = stands;
        exact = exact_more capacity [] past (front_step p found) is.exact
            (in_follows capacity past p (front_step p found) (K.writing old was.out) (K.reading old lent) (K.reading new back) was.committed (ap (λ (r : Reading). r.taken) (sym same) ∙ was.taken) was.sealed_is
            (subst (λ (f : Front). SeesAll (K.writing old was.out) f (K.reading new back)) (sym (look_at p found)) (exact is_exact was.out was.out_is))
            (look_does p found (K.reading old lent) (K.reading new back) finds));
      }

pub looks_go_on : {S O I N : Type 0} (K : Known S O I N) → K.exact ≡ true → ((s : S) (i j : I) → K.in_name i ≡ K.in_name j → K.reading s i ≡ K.reading s j) → LooksGoOn K
looks_go_on K is_exact one_in goes capacity old new past o e found h one named look is =
    look_goes_on K is_exact one_in goes capacity one old new past (read_through e) look.was.input look.back.input found (named ∙ look.reads) look.looks.finds look.looks.exact look.looks.keeps is

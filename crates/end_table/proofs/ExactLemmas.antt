-- Read exactly: the steps of calls go on behind the steps past, each following from all before it.
use Rattle.std.proofs.Common.{◌≡◌, ◌≢◌, ⊎_elim, ◌||◌, ℕ, List, [], ◌∷◌, ◌++◌, Bool, true, false, Option, Some, refl, sym, ap, ◌∙◌, subst, append-nil, append_assoc, length, true≢false}
use Rattle.std.proofs.lemmas.List.Elements.{filter_map-append}
use Rattle.std.proofs.lemmas.List.Folds.{list_any-append}
use Rattle.zq_base.specs.Message.{Frames}
use Rattle.zq_base.specs.Ends.{PipeId}
use Rattle.spec_pattern.specs.PipeStep.{PipeStep, same_pipe, committed_by, taken_by, sealed_by, committed_to, taken_from, sealed_in, read_through}
use Rattle.spec_pattern.specs.Half.{Writing, Reading}
use Rattle.spec_pattern.proofs.Exact.{same_pipes}
use Rattle.msg_pipe.specs.Known.{Known, IsThere}
use Rattle.end_table.specs.declared.row.EndRow.{EndRow}
use Rattle.end_table.specs.Rows.{Table, row_at}
use Rattle.end_table.specs.Runs.{OutCall, InCall, DoesOne, DoesAll}
use Rattle.end_table.specs.Past.{OneName, Stands, IsPast, AreNamed}
use Rattle.end_table.proofs.RowLemmas.{some_same}
use Rattle.end_table.proofs.StepLemmas.{own_pipe, or_false, out_grows, out_else, out_takes, out_capacity, out_sealed, out_sealed_else, in_grows, in_else, in_commits, out_follows, in_follows, exact_more}
use Rattle.end_table.proofs.HeldLemmas.{row_after}

-- a list grows by what a step adds to it
grown : (front all back more : List Frames) → all ≡ front ++ more → back ≡ front → all ≡ back ++ more
grown front all back more e same = e ∙ ap (λ (l : List Frames). l ++ more) (sym same)

kept : (old new more : Bool) → new ≡ old → more ≡ false → new ≡ (old || more)
kept old new more e none = e ∙ sym (or_false old) ∙ ap (λ (b : Bool). old || b) (sym none)

stays : (old new more : List Frames) → new ≡ old → more ≡ [] → new ≡ old ++ more
stays old new more e none = e ∙ sym (append-nil old) ∙ ap (λ (l : List Frames). old ++ l) (sym none)

module _ {S O I N : Type 0} (K : Known S O I N) (is_exact : K.exact ≡ true)
    (one_out : (s : S) (o p : O) → K.out_name o ≡ K.out_name p → K.writing s o ≡ K.writing s p)
    (one_in : (s : S) (i j : I) → K.in_name i ≡ K.in_name j → K.reading s i ≡ K.reading s j)
    (goes : PipeId → Option N) (capacity : PipeId → ℕ) (one_name : OneName goes) where
  -- a pipe stands as the steps past and one more left it
  stands_on : (old new : S) (past : List PipeStep) (s : PipeStep) (p : PipeId) (n : N) (was : Stands K goes capacity old past p n) → IsThere K new n
      → (K.writing new was.out).committed ≡ (K.writing old was.out).committed ++ committed_to p (s ∷ [])
      → (K.reading new was.input).taken ≡ (K.reading old was.input).taken ++ taken_from p (s ∷ [])
      → (K.writing new was.out).capacity ≡ (K.writing old was.out).capacity
      → (K.writing new was.out).sealed ≡ ((K.writing old was.out).sealed || sealed_in p (s ∷ []))
      → Stands K goes capacity new (past ++ s ∷ []) p n
  stands_on old new past s p n was there commits takes fits sealed = record {
    out = was.out;
    input = was.input;
    out_is = was.out_is;
    in_is = was.in_is;
    there = there;
    committed = commits ∙ ap (λ (l : List Frames). l ++ committed_to p (s ∷ [])) was.committed ∙ sym (filter_map-append (committed_by p) past (s ∷ []));
    taken = takes ∙ ap (λ (l : List Frames). l ++ taken_from p (s ∷ [])) was.taken ∙ sym (filter_map-append (taken_by p) past (s ∷ []));
    capacity_is = fits ∙ was.capacity_is;
    sealed_is = sealed ∙ ap (λ (b : Bool). b || sealed_in p (s ∷ [])) was.sealed_is ∙ sym (list_any-append (sealed_by p) past (s ∷ []));
  }

  -- pipes of two names are two, and those of one name are one
  name_else : (p q : PipeId) (n m : N) → goes p ≡ Some n → goes q ≡ Some m → same_pipe p q ≡ false → n ≢ m
  name_else p q n m x y e same =
      let is : p ≡ q = one_name p q m (x ∙ ap Some same) y in
      absurd (true≢false (sym (own_pipe q) ∙ ap (λ (r : PipeId). same_pipe r q) (sym is) ∙ e))

  name_same : (p q : PipeId) (n m : N) → goes p ≡ Some n → goes q ≡ Some m → same_pipe p q ≡ true → n ≡ m
  name_same p q n m x y e = some_same n m (sym x ∙ ap goes (same_pipes p q e) ∙ y)

  module _ (old : Table S O I) (s : PipeStep) (new : Table S O I) (past : List PipeStep) (c : OutCall K old s new)
      (named : AreNamed K goes capacity old.rows) (is : IsPast K goes capacity old.pipes past) where
    put_name : goes c.row.end ≡ Some (K.out_name c.row.out)
    put_name = (named c.place c.row c.at.here).0

    put_stands : (p : PipeId) (n : N) (b : Bool) → same_pipe p c.row.end ≡ b → goes p ≡ Some n → Stands K goes capacity new.pipes (past ++ s ∷ []) p n
    put_stands p n true e g =
        let was = is.stands p n g in
        let name : K.out_name was.out ≡ K.out_name c.row.out = was.out_is ∙ name_same p c.row.end n (K.out_name c.row.out) g put_name e in
        let v : K.writing old.pipes was.out ≡ K.writing old.pipes c.row.out = one_out old.pipes was.out c.row.out name in
        let w : K.writing new.pipes was.out ≡ K.writing new.pipes c.back.out = one_out new.pipes was.out c.back.out (name ∙ sym c.keeps.name_is) in
        let pipe = same_pipes p c.row.end e in
        let reads = c.keeps.ins was.input (subst (IsThere K old.pipes) (sym was.in_is) was.there) in
        stands_on old.pipes new.pipes past s p n was (c.keeps.there n was.there)
        (ap (λ (x : Writing). x.committed) w
        ∙ out_grows c.row.end s (K.writing old.pipes c.row.out) (K.writing new.pipes c.back.out) c.does
        ∙ ap (λ (x : Writing). x.committed ++ committed_to c.row.end (s ∷ [])) (sym v)
        ∙ ap (λ (q : PipeId). (K.writing old.pipes was.out).committed ++ committed_to q (s ∷ [])) (sym pipe))
        (stays _ _ _ (ap (λ (x : Reading). x.taken) reads) (out_takes p c.row.end s _ _ c.does))
        (ap (λ (x : Writing). x.capacity) w ∙ out_capacity c.row.end s (K.writing old.pipes c.row.out) (K.writing new.pipes c.back.out) c.does ∙ ap (λ (x : Writing). x.capacity) (sym v))
        (ap (λ (x : Writing). x.sealed) w ∙ out_sealed c.row.end s (K.writing old.pipes c.row.out) (K.writing new.pipes c.back.out) c.does
        ∙ ap (λ (x : Writing). x.sealed || sealed_in c.row.end (s ∷ [])) (sym v) ∙ ap (λ (q : PipeId). (K.writing old.pipes was.out).sealed || sealed_in q (s ∷ [])) (sym pipe))
    put_stands p n false e g =
        let was = is.stands p n g in
        let w = c.keeps.outs was.out (subst (IsThere K old.pipes) (sym was.out_is) was.there)
        (λ _ same. name_else p c.row.end n (K.out_name c.row.out) g put_name e (sym was.out_is ∙ same)) in
        let reads = c.keeps.ins was.input (subst (IsThere K old.pipes) (sym was.in_is) was.there) in
        stands_on old.pipes new.pipes past s p n was (c.keeps.there n was.there)
        (stays _ _ _ (ap (λ (x : Writing). x.committed) w) (out_else p c.row.end s _ _ c.does e))
        (stays _ _ _ (ap (λ (x : Reading). x.taken) reads) (out_takes p c.row.end s _ _ c.does))
        (ap (λ (x : Writing). x.capacity) w)
        (kept _ _ _ (ap (λ (x : Writing). x.sealed) w) (out_sealed_else p c.row.end s _ _ c.does e))

    put_past : IsPast K goes capacity new.pipes (past ++ s ∷ [])
    put_past =
        let was = is.stands c.row.end (K.out_name c.row.out) put_name in
        let v = one_out old.pipes was.out c.row.out was.out_is in
        record {
          stands = λ p n g. put_stands p n (same_pipe p c.row.end) refl g;
          exact = exact_more capacity [] past s is.exact
              (out_follows capacity past c.row.end s (K.writing old.pipes c.row.out) (K.writing new.pipes c.back.out)
              (ap (λ (x : Writing). x.committed) (sym v) ∙ was.committed)
              (ap (λ (x : Writing). x.capacity) (sym v) ∙ was.capacity_is)
              (ap (λ (x : Writing). x.sealed) (sym v) ∙ was.sealed_is)
              (λ looks. c.exact looks is_exact was.input was.in_is ∙ ap length was.taken)
              c.does);
        }

    put_named : AreNamed K goes capacity new.rows
    put_named k r here = ⊎_elim
        (λ (h : (k ≡ c.place) × (c.back ≡ r)). subst (λ (x : EndRow O I). (goes x.end ≡ Some (K.out_name x.out)) × (goes (read_through x.end) ≡ Some (K.in_name x.input))) h.1 (
          ap goes c.at.end_is ∙ put_name ∙ ap Some (sym c.keeps.name_is),
          ap (λ (q : PipeId). goes (read_through q)) c.at.end_is ∙ (named c.place c.row c.at.here).1 ∙ ap (λ (i : I). Some (K.in_name i)) (sym c.input_is),
        ))
        (λ (h : (k ≢ c.place) × (row_at old.rows k ≡ Some r)). named k r h.1)
        (row_after K old new c.place c.row c.back c.at k r here)

  module _ (old : Table S O I) (s : PipeStep) (new : Table S O I) (past : List PipeStep) (c : InCall K old s new)
      (named : AreNamed K goes capacity old.rows) (is : IsPast K goes capacity old.pipes past) where
    take_name : goes (read_through c.row.end) ≡ Some (K.in_name c.row.input)
    take_name = (named c.place c.row c.at.here).1

    take_stands : (p : PipeId) (n : N) (b : Bool) → same_pipe p (read_through c.row.end) ≡ b → goes p ≡ Some n → Stands K goes capacity new.pipes (past ++ s ∷ []) p n
    take_stands p n true e g =
        let was = is.stands p n g in
        let name : K.in_name was.input ≡ K.in_name c.row.input = was.in_is ∙ name_same p (read_through c.row.end) n (K.in_name c.row.input) g take_name e in
        let v : K.reading old.pipes was.input ≡ K.reading old.pipes c.row.input = one_in old.pipes was.input c.row.input name in
        let w : K.reading new.pipes was.input ≡ K.reading new.pipes c.back.input = one_in new.pipes was.input c.back.input (name ∙ sym c.keeps.name_is) in
        let pipe = same_pipes p (read_through c.row.end) e in
        let writes = c.keeps.outs was.out (subst (IsThere K old.pipes) (sym was.out_is) was.there) in
        stands_on old.pipes new.pipes past s p n was (c.keeps.there n was.there)
        (stays _ _ _ (ap (λ (x : Writing). x.committed) writes) (in_commits p (read_through c.row.end) s _ _ c.does).0)
        (ap (λ (x : Reading). x.taken) w
        ∙ in_grows (read_through c.row.end) s (K.reading old.pipes c.row.input) (K.reading new.pipes c.back.input) c.does
        ∙ ap (λ (x : Reading). x.taken ++ taken_from (read_through c.row.end) (s ∷ [])) (sym v)
        ∙ ap (λ (q : PipeId). (K.reading old.pipes was.input).taken ++ taken_from q (s ∷ [])) (sym pipe))
        (ap (λ (x : Writing). x.capacity) writes)
        (kept _ _ _ (ap (λ (x : Writing). x.sealed) writes) (in_commits p (read_through c.row.end) s _ _ c.does).1)
    take_stands p n false e g =
        let was = is.stands p n g in
        let writes = c.keeps.outs was.out (subst (IsThere K old.pipes) (sym was.out_is) was.there) in
        let reads = c.keeps.ins was.input (subst (IsThere K old.pipes) (sym was.in_is) was.there)
        (λ _ same. name_else p (read_through c.row.end) n (K.in_name c.row.input) g take_name e (sym was.in_is ∙ same)) in
        stands_on old.pipes new.pipes past s p n was (c.keeps.there n was.there)
        (stays _ _ _ (ap (λ (x : Writing). x.committed) writes) (in_commits p (read_through c.row.end) s _ _ c.does).0)
        (stays _ _ _ (ap (λ (x : Reading). x.taken) reads) (in_else p (read_through c.row.end) s _ _ c.does e))
        (ap (λ (x : Writing). x.capacity) writes)
        (kept _ _ _ (ap (λ (x : Writing). x.sealed) writes) (in_commits p (read_through c.row.end) s _ _ c.does).1)

    take_past : IsPast K goes capacity new.pipes (past ++ s ∷ [])
    take_past =
        let was = is.stands (read_through c.row.end) (K.in_name c.row.input) take_name in
        let v = one_in old.pipes was.input c.row.input was.in_is in
        record {
          stands = λ p n g. take_stands p n (same_pipe p (read_through c.row.end)) refl g;
          exact = exact_more capacity [] past s is.exact
              (in_follows capacity past (read_through c.row.end) s (K.writing old.pipes was.out) (K.reading old.pipes c.row.input) (K.reading new.pipes c.back.input)
              was.committed
              (ap (λ (x : Reading). x.taken) (sym v) ∙ was.taken)
              was.sealed_is
              (c.exact is_exact was.out was.out_is)
              c.does);
        }

    take_named : AreNamed K goes capacity new.rows
    take_named k r here = ⊎_elim
        (λ (h : (k ≡ c.place) × (c.back ≡ r)). subst (λ (x : EndRow O I). (goes x.end ≡ Some (K.out_name x.out)) × (goes (read_through x.end) ≡ Some (K.in_name x.input))) h.1 (
          ap goes c.at.end_is ∙ (named c.place c.row c.at.here).0 ∙ ap (λ (o : O). Some (K.out_name o)) (sym c.out_is),
          ap (λ (q : PipeId). goes (read_through q)) c.at.end_is ∙ take_name ∙ ap Some (sym c.keeps.name_is),
        ))
        (λ (h : (k ≢ c.place) × (row_at old.rows k ≡ Some r)). named k r h.1)
        (row_after K old new c.place c.row c.back c.at k r here)

  -- one call, and calls one after another
  one_exactly : (old : Table S O I) (s : PipeStep) (new : Table S O I) (past : List PipeStep) → DoesOne K old s new → AreNamed K goes capacity old.rows → IsPast K goes capacity old.pipes past
      → IsPast K goes capacity new.pipes (past ++ s ∷ []) × AreNamed K goes capacity new.rows
  one_exactly old s new past one named is = ⊎_elim
      (λ (c : OutCall K old s new). (put_past old s new past c named is, put_named old s new past c named is))
      (λ (c : InCall K old s new). (take_past old s new past c named is, take_named old s new past c named is))
      one

  pub exactly : (old : Table S O I) (steps : List PipeStep) (new : Table S O I) (past : List PipeStep) → DoesAll K old steps new → AreNamed K goes capacity old.rows → IsPast K goes capacity old.pipes past
      → IsPast K goes capacity new.pipes (past ++ steps) × AreNamed K goes capacity new.rows
  exactly old [] new past all named is = (
    subst (λ (t : Table S O I). IsPast K goes capacity t.pipes (past ++ [])) (sym all) (subst (λ (l : List PipeStep). IsPast K goes capacity old.pipes l) (sym (append-nil past)) is),
    subst (λ (t : Table S O I). AreNamed K goes capacity t.rows) (sym all) named,
  )
  exactly old (s ∷ ss) new past all named is =
      let one = one_exactly old s all.0 past all.1 named is in
      let rest = exactly all.0 ss new (past ++ s ∷ []) all.2 one.1 one.0 in
      (subst (λ (l : List PipeStep). IsPast K goes capacity new.pipes l) (append_assoc past (s ∷ []) ss) rest.0, rest.1)

-- Steps at the halves of an end, one after another.
use Rattle.std.proofs.Common.{◌≡◌, Bool, true, false, List, [], ◌∷◌, ◌++◌, Option, Some, None, refl, sym, ap, subst, ◌∙◌}
use Rattle.std.specs.List.{flat_map}
use Rattle.zq_base.specs.Message.{Frames}
use Rattle.zq_base.specs.Ends.{PipeId}
use Rattle.spec_control.specs.declared.end.EndState.{EndState}
use Rattle.spec_pattern.specs.Half.{Writing}
use Rattle.spec_pattern.specs.PipeStep.{PipeStep, Commit, FullLook, RoomLook, Take, EmptyLook, DelimiterLook, WaitingLook, Seal}
use Rattle.msg_pipe.specs.Known.{Known, IsThere, KeepsButIn}
use Rattle.msg_pipe.specs.Told.{Puts, front_step}
use Rattle.msg_pipe.specs.declared.pipes.PutIn.{PutIn}
use Rattle.msg_pipe.specs.declared.pipes.PutIn.TheVariants as put_in
use Rattle.msg_pipe.specs.declared.pipes.Front.{Front}
use Rattle.zq_session.specs.Unlinked.{LooksBy}
use Rattle.link_side.proofs.PartLemmas.{some_pipe}
use Rattle.link_side.specs.Calls.{PutRun, PutsRun, put_acts}
use Rattle.zq_session.specs.Halves.{StepRun, StepsRun, AreThere, WritesThere, step_in}

-- a put leaves the pipe as open as it was
sealed_by : (v w : Writing) (m : Frames) (found : PutIn) → Puts v m found w → w.sealed ≡ v.sealed
sealed_by v w m put_in.Ok p = p.sealed
sealed_by v w m (put_in.Full back) p = p.1.sealed

some_is : {T : Type 0} (x y : T) → Some x ≡ Some y → x ≡ y
some_is x y e = cc

module _ {S O I N : Type 0} (K : Known S O I N) where
  -- steps behind steps
  pub steps_on : (xs ys : List PipeStep) (s t u : S) (i j k : Option I) (o p q : Option O) → StepsRun K xs s i o t j p → StepsRun K ys t j p u k q → StepsRun K (xs ++ ys) s i o u k q
  steps_on [] ys s t u i j k o p q x y =
      subst (λ (a : S). StepsRun K ys a i o u k q) x.0
      (subst (λ (a : Option I). StepsRun K ys t a o u k q) x.1.0
      (subst (λ (a : Option O). StepsRun K ys t j a u k q) x.1.1 y))
  steps_on (z ∷ xs) ys s t u i j k o p q x y = (x.0, x.1, x.2, x.3, steps_on xs ys x.0 t u x.1 j k x.2 p q x.4 y)

  pub no_steps : (s : S) (i : Option I) (o : Option O) → StepsRun K [] s i o s i o
  no_steps s i o = (refl, (refl, refl))

  pub one_step : (step : PipeStep) (s s' : S) (i i' : Option I) (o o' : Option O) → StepRun K step s i o s' i' o' → StepsRun K (step ∷ []) s i o s' i' o'
  one_step step s s' i i' o o' r = (s', i', o', r, (refl, (refl, refl)))

  -- ---- the halves are there still

  in_writes : (s s' : S) (o o' : Option O) (h k : I) → o' ≡ o → KeepsButIn K h k s s' → WritesThere K s o → WritesThere K s' o'
  in_writes s s' o o' h k other keeps t = (t.0, other ∙ t.1, (keeps.there (K.out_name t.0) t.2.0, ap (λ (x : Writing). x.sealed) (keeps.outs t.0 t.2.0) ∙ t.2.1))

  out_writes : (s s' : S) (o o' : Option O) (h k : O) (m : Frames) (found : PutIn) → o ≡ Some h → o' ≡ Some k → PutRun K s h m found s' k → WritesThere K s o → WritesThere K s' o'
  out_writes s s' o o' h k m found was is run t =
      let same = some_is t.0 h (sym t.1 ∙ was) in (
        k,
        is,
        (
          subst (λ (n : N). IsThere K s' n) (ap (λ (x : O). K.out_name x) same ∙ sym run.keeps.name_is) (run.keeps.there (K.out_name t.0) t.2.0),
          sealed_by (K.writing s h) (K.writing s' k) m found run.puts_is ∙ ap (λ (x : O). (K.writing s x).sealed) (sym same) ∙ t.2.1,
        ),
      )

  in_there : (s s' : S) (state : Option EndState) (i i' : Option I) (o o' : Option O) (h k : I) → i ≡ Some h → i' ≡ Some k → o' ≡ o → KeepsButIn K h k s s' → AreThere K state s i o → AreThere K state s' i' o'
  in_there s s' state i i' o o' h k was is other keeps there = record {
    reads = λ r.
        let t = there.reads r in
        (k, is, subst (λ (n : N). IsThere K s' n) (ap (λ (x : I). K.in_name x) (some_is t.0 h (sym t.1 ∙ was)) ∙ sym keeps.name_is) (keeps.there (K.in_name t.0) t.2));
    writes = λ w. in_writes s s' o o' h k other keeps (there.writes w);
  }

  out_there : (s s' : S) (state : Option EndState) (i i' : Option I) (o o' : Option O) (h k : O) (m : Frames) (found : PutIn) → o ≡ Some h → o' ≡ Some k → i' ≡ i → PutRun K s h m found s' k → AreThere K state s i o → AreThere K state s' i' o'
  out_there s s' state i i' o o' h k m found was is other run there = record {
    reads = λ r.
        let t = there.reads r in
        (t.0, other ∙ t.1, run.keeps.there (K.in_name t.0) t.2);
    writes = λ w. out_writes s s' o o' h k m found was is run (there.writes w);
  }

  step_there : (step : PipeStep) (s s' : S) (state : Option EndState) (i i' : Option I) (o o' : Option O) → StepRun K step s i o s' i' o' → AreThere K state s i o → AreThere K state s' i' o'
  step_there (Commit pipe m) s s' state i i' o o' r t = out_there s s' state i i' o o' r.old r.new m put_in.Ok r.was r.is r.other r.runs t
  step_there (FullLook pipe) s s' state i i' o o' r t = out_there s s' state i i' o o' r.old r.new r.runs.0 (put_in.Full r.runs.0) r.was r.is r.other r.runs.1 t
  step_there (RoomLook pipe) s s' state i i' o o' r t = absurd r
  step_there (Take pipe m) s s' state i i' o o' r t = in_there s s' state i i' o o' r.old r.new r.was r.is r.other r.runs.keeps t
  step_there (EmptyLook pipe) s s' state i i' o o' r t = in_there s s' state i i' o o' r.old r.new r.was r.is r.other r.runs.keeps t
  step_there (DelimiterLook pipe) s s' state i i' o o' r t = in_there s s' state i i' o o' r.old r.new r.was r.is r.other r.runs.keeps t
  step_there (WaitingLook pipe) s s' state i i' o o' r t = in_there s s' state i i' o o' r.old r.new r.was r.is r.other r.runs.keeps t
  step_there (Seal pipe) s s' state i i' o o' r t = absurd r

  pub steps_there : (steps : List PipeStep) (s s' : S) (state : Option EndState) (i i' : Option I) (o o' : Option O) → StepsRun K steps s i o s' i' o' → AreThere K state s i o → AreThere K state s' i' o'
  steps_there [] s s' state i i' o o' r t =
      subst (λ (a : S). AreThere K state a i' o') (sym r.0)
      (subst (λ (a : Option I). AreThere K state s a o') (sym r.1.0)
      (subst (λ (a : Option O). AreThere K state s i a) (sym r.1.1) t))
  steps_there (x ∷ steps) s s' state i i' o o' r t = steps_there steps r.0 s' state r.1 i' r.2 o' r.4 (step_there x s r.0 state i r.1 o r.2 r.3 t)

  -- the writing half, by it alone
  step_writes : (step : PipeStep) (s s' : S) (i i' : Option I) (o o' : Option O) → StepRun K step s i o s' i' o' → WritesThere K s o → WritesThere K s' o'
  step_writes (Commit pipe m) s s' i i' o o' r t = out_writes s s' o o' r.old r.new m put_in.Ok r.was r.is r.runs t
  step_writes (FullLook pipe) s s' i i' o o' r t = out_writes s s' o o' r.old r.new r.runs.0 (put_in.Full r.runs.0) r.was r.is r.runs.1 t
  step_writes (RoomLook pipe) s s' i i' o o' r t = absurd r
  step_writes (Take pipe m) s s' i i' o o' r t = in_writes s s' o o' r.old r.new r.other r.runs.keeps t
  step_writes (EmptyLook pipe) s s' i i' o o' r t = in_writes s s' o o' r.old r.new r.other r.runs.keeps t
  step_writes (DelimiterLook pipe) s s' i i' o o' r t = in_writes s s' o o' r.old r.new r.other r.runs.keeps t
  step_writes (WaitingLook pipe) s s' i i' o o' r t = in_writes s s' o o' r.old r.new r.other r.runs.keeps t
  step_writes (Seal pipe) s s' i i' o o' r t = absurd r

  pub steps_writes : (steps : List PipeStep) (s s' : S) (i i' : Option I) (o o' : Option O) → StepsRun K steps s i o s' i' o' → WritesThere K s o → WritesThere K s' o'
  steps_writes [] s s' i i' o o' r t = subst (λ (a : S). WritesThere K a o') (sym r.0) (subst (λ (a : Option O). WritesThere K s a) (sym r.1.1) t)
  steps_writes (x ∷ steps) s s' i i' o o' r t = steps_writes steps r.0 s' r.1 i' r.2 o' r.4 (step_writes x s r.0 i r.1 o r.2 r.3 t)

  -- behind a look
  pub look_there : (can_read : Bool) (found : Option Front) (s s' : S) (state : Option EndState) (i i' : Option I) (o : Option O) → LooksBy K can_read found s i s' i' → AreThere K state s i o → AreThere K state s' i' o
  look_there can_read None s s' state i i' o r t = steps_there [] s s' state i i' o o (r.1.0, (r.1.1, refl)) t
  look_there can_read (Some f) s s' state i i' o r t = steps_there (front_step some_pipe f ∷ []) s s' state i i' o o (one_step (front_step some_pipe f) s s' i i' o o (r.1 some_pipe o)) t

  -- and so are all pipes
  step_keeps : (step : PipeStep) (s s' : S) (i i' : Option I) (o o' : Option O) → StepRun K step s i o s' i' o' → (n : N) → IsThere K s n → IsThere K s' n
  step_keeps (Commit pipe m) s s' i i' o o' r n t = r.runs.keeps.there n t
  step_keeps (FullLook pipe) s s' i i' o o' r n t = r.runs.1.keeps.there n t
  step_keeps (RoomLook pipe) s s' i i' o o' r n t = absurd r
  step_keeps (Take pipe m) s s' i i' o o' r n t = r.runs.keeps.there n t
  step_keeps (EmptyLook pipe) s s' i i' o o' r n t = r.runs.keeps.there n t
  step_keeps (DelimiterLook pipe) s s' i i' o o' r n t = r.runs.keeps.there n t
  step_keeps (WaitingLook pipe) s s' i i' o o' r n t = r.runs.keeps.there n t
  step_keeps (Seal pipe) s s' i i' o o' r n t = absurd r

  pub steps_keep : (steps : List PipeStep) (s s' : S) (i i' : Option I) (o o' : Option O) → StepsRun K steps s i o s' i' o' → (n : N) → IsThere K s n → IsThere K s' n
  steps_keep [] s s' i i' o o' r n t = subst (λ (a : S). IsThere K a n) (sym r.0) t
  steps_keep (x ∷ steps) s s' i i' o o' r n t = steps_keep steps r.0 s' r.1 i' r.2 o' r.4 n (step_keeps x s r.0 i r.1 o r.2 r.3 n t)

  -- ---- puts as steps

  pub puts_steps : (pipe : PipeId) (ms : List Frames) (full : Bool) (s s' : S) (i : Option I) (o o' : O) → PutsRun K s o ms full s' o'
      → StepsRun K (flat_map step_in (put_acts pipe ms full)) s i (Some o) s' i (Some o')
  puts_steps pipe [] false s s' i o o' r = (r.0, (refl, ap (λ (x : O). Some x) r.1))
  puts_steps pipe [] true s s' i o o' r =
      (s', i, Some o', record { old = o; new = o'; was = refl; is = refl; other = refl; runs = r }, (refl, (refl, refl)))
  puts_steps pipe (m ∷ ms) full s s' i o o' r =
      (r.0, i, Some r.1, record { old = o; new = r.1; was = refl; is = refl; other = refl; runs = r.2 }, puts_steps pipe ms full r.0 s' i r.1 o' r.3)

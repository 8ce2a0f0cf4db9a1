-- That a session lived, and the halves of its end are there, as facts of one value.
use Rattle.std.specs.Prelude.{◌≡◌, ℕ, Bool, true, false, List, [], ◌∷◌, ◌++◌, Option, Some, None, is_some, IfOk, OnErr}
use Rattle.std.specs.List.{flat_map}
use Rattle.std.specs.Coded.{Coded-set}
use Rattle.std.proofs.Common.{◌∙◌, Result, Ok, Err, refl, sym, ap, subst, inl, inr}
use Rattle.std.proofs.Math.Logic.{∥∥₁_elim, ∥∥₁_map}
use Rattle.std.proofs.lemmas.List.Sums.{fold-append}
use Rattle.zq_session.specs.LifeView.{IsReadable, IsWritable}
use Rattle.msg_pipe.specs.Known.{Known, IsThere}
use Rattle.spec_control.specs.declared.end.EndState.{EndState}
use Rattle.spec_control.specs.declared.end.EndState.TheVariants.{Active, WaitDelimiter, AckSent, Gone}
use Rattle.spec_link.specs.History.{Basis, SessionEvent, Given, EndIs, Told, Tried, Standing, after, unborn}
use Rattle.zq_session.specs.Halves.{AtIn, AtOut, StepRun, StepsRun, step_at}
use Rattle.zq_session.specs.Sessions.{SessionState, HasLived, Happens, AreAt, Did, TurnsOn, CutsOn}
use Rattle.zq_session.specs.declared.turned.Turned.{Turned}
use Rattle.zq_session.specs.Moved.{Turns}
use Rattle.spec_pattern.specs.PipeStep.{PipeStep, Commit, FullLook, RoomLook, Take, EmptyLook, DelimiterLook, WaitingLook, Seal}
use Rattle.atomic_table.specs.Seated.{TableId, table_id_coded}
use Rattle.zq_tests_links.specs.Seats.{IsLived, IsPaired, KeepsPair, ReadsHere, WritesHere}
use Rattle.zq_tests_links.proofs.CallLemmas.{not_active, not_readable}

the_one : {T : Type 0} (o : Option T) → is_some o ≡ true → (x : T) × (o ≡ Some x)
the_one None e = absurd cc
the_one (Some x) e = (x, refl)

the_same : {T : Type 0} (x y : T) → Some x ≡ Some y → x ≡ y
the_same x y e = cc

module _ {O I : Type 0} where
  -- one thing happened to it
  pub lived_on : (old new : SessionState O I) (event : SessionEvent) → Happens old event new → IsLived old → IsLived new
  lived_on old new event happens lived = ∥∥₁_map lived (λ l. (l.0, l.1 ++ event ∷ [], happens l.0 l.1 l.2))

  -- it was made so
  pub lived_from : (b : Basis) (history : List SessionEvent) (v : SessionState O I) → HasLived b history v → IsLived v
  lived_from b history v lived = ∣ (b, history, lived) ∣₁

  -- it was told to end and its end acknowledged, and both its halves were given away
  pub parted : (left : Bool) (v told acked tried given settled : SessionState O I) → Happens v (Told 0) told → Happens told (EndIs AckSent) acked → Happens acked (Tried left) tried
      → given ≡ record tried { out = None } → settled ≡ record given { input = None } → IsLived v → IsLived settled
  parted left v told acked tried given settled tells acks tries gives settles lived =
      subst IsLived (sym settles) (subst IsLived (sym gives)
      (lived_on acked tried (Tried left) tries (lived_on told acked (EndIs AckSent) acks (lived_on v told (Told 0) tells lived))))

  -- its end is gone
  gone_state_by : (b : Basis) (history : List SessionEvent) (v : SessionState O I) → HasLived b (history ++ EndIs Gone ∷ []) v → v.course.life.state ≡ Some Gone
  gone_state_by b history v lived =
      sym (ap (λ (x : Standing). x.state) lived.2) ∙ ap (λ (x : Standing). x.state) (fold-append (after b) unborn history (EndIs Gone ∷ []))

  pub gone_unread : (old new : SessionState O I) → Happens old (EndIs Gone) new → IsLived old → IsReadable new.course.life.state → ⊥
  gone_unread old new happens lived r = ∥∥₁_elim lived (λ x y. absurd x) (λ l. not_readable new.course.life.state (sym (gone_state_by l.0 l.1 new (happens l.0 l.1 l.2))) r)

  pub gone_unwritten : (old new : SessionState O I) → Happens old (EndIs Gone) new → IsLived old → IsWritable new.course.life.state → ⊥
  gone_unwritten old new happens lived w = ∥∥₁_elim lived (λ x y. absurd x) (λ l. not_active new.course.life.state (sym (gone_state_by l.0 l.1 new (happens l.0 l.1 l.2))) w)

module _ {S O I N : Type 0} (K : Known S O I N) where
  pub reads_gone : (s : S) (v : SessionState O I) → (IsReadable v.course.life.state → ⊥) → ReadsHere K s v
  reads_gone s v never = λ r. absurd (never r)

  pub writes_gone : (s : S) (v : SessionState O I) → (IsWritable v.course.life.state → ⊥) → WritesHere K s v
  writes_gone s v never = λ w. absurd (never w)

module _ {S O I N L : Type 0} (K : Known S O I N) (heard said : L → Option (List ℕ)) (faults stalls ends : L → ℕ) (does : Basis → Standing → ℕ → List SessionEvent → Type 0) where
  -- a turn was made, or was cut short
  lived_did : (now : ℕ) (old new : SessionState O I) (link link' : Option L) (s s' : S)
      → ((b : Basis) (history : List SessionEvent) → HasLived b history old → Did K heard said faults stalls ends does b history now old new link link' s s') → IsLived old → IsLived new
  lived_did now old new link link' s s' did lived = ∥∥₁_map lived (λ l. (let d = did l.0 l.1 l.2 in (l.0, l.1 ++ d.events, d.lived)))

-- the pipe that it reads, and the half that it writes, are those that they were
module _ {S O I N : Type 0} (K : Known S O I N) where
  in_paired : (run : I → I → Type 0) (kept : (h k : I) → run h k → K.in_name k ≡ K.in_name h) (name : N) (i : Option I) (o : Option O) (i' : Option I) (o' : Option O)
      → AtIn K run i o i' o' → IsPaired K.in_name name i o → IsPaired K.in_name name i' o'
  in_paired run kept name i o i' o' at p = record {
    half = at.new;
    reads = at.is;
    name_is = kept at.old at.new at.runs ∙ ap K.in_name (the_same at.old p.half (sym at.was ∙ p.reads)) ∙ p.name_is;
    other = p.other;
    writes = at.other ∙ p.writes;
  }

  out_paired : (run : O → O → Type 0) (name : N) (i : Option I) (o : Option O) (i' : Option I) (o' : Option O)
      → AtOut K run i o i' o' → IsPaired K.in_name name i o → IsPaired K.in_name name i' o'
  out_paired run name i o i' o' at p = record {
    half = p.half;
    reads = at.other ∙ p.reads;
    name_is = p.name_is;
    other = at.new;
    writes = at.is;
  }

  step_paired : (step : PipeStep) (name : N) (s : S) (i : Option I) (o : Option O) (s' : S) (i' : Option I) (o' : Option O)
      → StepRun K step s i o s' i' o' → IsPaired K.in_name name i o → IsPaired K.in_name name i' o'
  step_paired (Commit pipe m) name s i o s' i' o' run p = out_paired _ name i o i' o' run p
  step_paired (FullLook pipe) name s i o s' i' o' run p = out_paired _ name i o i' o' run p
  step_paired (RoomLook pipe) name s i o s' i' o' run p = absurd run
  step_paired (Take pipe m) name s i o s' i' o' run p = in_paired _ (λ h k r. r.keeps.name_is) name i o i' o' run p
  step_paired (EmptyLook pipe) name s i o s' i' o' run p = in_paired _ (λ h k r. r.keeps.name_is) name i o i' o' run p
  step_paired (DelimiterLook pipe) name s i o s' i' o' run p = in_paired _ (λ h k r. r.keeps.name_is) name i o i' o' run p
  step_paired (WaitingLook pipe) name s i o s' i' o' run p = in_paired _ (λ h k r. r.keeps.name_is) name i o i' o' run p
  step_paired (Seal pipe) name s i o s' i' o' run p = absurd run

  steps_paired : (steps : List PipeStep) (name : N) (s : S) (i : Option I) (o : Option O) (s' : S) (i' : Option I) (o' : Option O)
      → StepsRun K steps s i o s' i' o' → IsPaired K.in_name name i o → IsPaired K.in_name name i' o'
  steps_paired [] name s i o s' i' o' run p = record {
    half = p.half;
    reads = run.1.0 ∙ p.reads;
    name_is = p.name_is;
    other = p.other;
    writes = run.1.1 ∙ p.writes;
  }
  steps_paired (step ∷ steps) name s i o s' i' o' run p =
      steps_paired steps name run.0 run.1 run.2 s' i' o' run.4 (step_paired step name s i o run.0 run.1 run.2 run.3 p)

module _ {S O I N L : Type 0} (K : Known S O I N) (heard said : L → Option (List ℕ)) (faults stalls ends : L → ℕ) (does : Basis → Standing → ℕ → List SessionEvent → Type 0) where
  paired_did : (now : ℕ) (old new : SessionState O I) (link link' : Option L) (s s' : S)
      → ((b : Basis) (history : List SessionEvent) → HasLived b history old → Did K heard said faults stalls ends does b history now old new link link' s s') → IsLived old → KeepsPair K old new
  paired_did now old new link link' s s' did lived = λ name p. ∥∥₁_map lived (λ l. (let d = did l.0 l.1 l.2 in
      steps_paired K (flat_map step_at d.events) name s old.input old.out s' new.input new.out d.steps p))

nothing : {T : Type 0} (x : T) → None ≡ Some x → ⊥
nothing x e = absurd cc

-- a turn was made, or was cut short: it lived on, and reads the pipe that it read
module _ {S O I N L : Type 0} (K : Known S O I N) (heard said : L → Option (List ℕ)) (faults stalls ends : L → ℕ) (goes cuts : Basis → Standing → ℕ → List SessionEvent → Type 0) where
  pub turned_on : {E : Type 0} (result : Result Turned E) (now : ℕ) (old new : SessionState O I) (link link' : Option L) (s s' : S)
      → IfOk result (λ done. TurnsOn K heard said faults stalls ends goes done now old new link link' s s') → OnErr result (CutsOn K heard said faults stalls ends cuts now old new link link' s s')
      → IsLived old → IsLived new × KeepsPair K old new
  turned_on (Ok done) now old new link link' s s' did cut lived =
      (lived_did K heard said faults stalls ends (Turns done goes) now old new link link' s s' did lived, paired_did K heard said faults stalls ends (Turns done goes) now old new link link' s s' did lived)
  turned_on (Err e) now old new link link' s s' did cut lived =
      (lived_did K heard said faults stalls ends cuts now old new link link' s s' cut lived, paired_did K heard said faults stalls ends cuts now old new link link' s s' cut lived)

-- where names can be told apart, there is no doubt which pipe it reads
pub pair_at : {O I : Type 0} (in_name : I → TableId) (name : TableId) (i : Option I) (o : Option O) → ∥ IsPaired in_name name i o ∥₁ → IsPaired in_name name i o
pair_at in_name name None o t = absurd (∥∥₁_elim t (λ x y. absurd x) (λ p. nothing p.half p.reads))
pair_at in_name name (Some h) None t = absurd (∥∥₁_elim t (λ x y. absurd x) (λ p. nothing p.other p.writes))
pair_at in_name name (Some h) (Some k) t = record {
  half = h;
  reads = refl;
  name_is = ∥∥₁_elim t (Coded-set table_id_coded (in_name h) name) (λ p. ap in_name (the_same h p.half p.reads) ∙ p.name_is);
  other = k;
  writes = refl;
}

module _ {S O I N : Type 0} (K : Known S O I N) where
  pub are_at : (s : S) (v : SessionState O I) → ReadsHere K s v → WritesHere K s v → AreAt K s v
  are_at s v f g = record {
    reads = λ r.
        let k = f r in
        let x = the_one v.input k.0 in
        (x.0, x.1, k.1 x.0 x.1);
    writes = λ w.
        let k = g w in
        let x = the_one v.out k.0 in
        (x.0, x.1, k.1 x.0 x.1);
  }

  pub reads_here : (s : S) (v : SessionState O I) → AreAt K s v → ReadsHere K s v
  reads_here s v a = λ r.
      let t = a.reads r in (
        ap (λ (o : Option I). is_some o) t.1,
        λ x e. subst (λ (h : I). IsThere K s (K.in_name h)) (the_same t.0 x (sym t.1 ∙ e)) t.2,
      )

  pub writes_here : (s : S) (v : SessionState O I) → AreAt K s v → WritesHere K s v
  writes_here s v a = λ w.
      let t = a.writes w in (
        ap (λ (o : Option O). is_some o) t.1,
        λ x e. subst (λ (h : O). IsThere K s (K.out_name h) × ((K.writing s h).sealed ≡ false)) (the_same t.0 x (sym t.1 ∙ e)) t.2,
      )

  pub new_at : (s : S) (v : SessionState O I) (i : I) (o : O) → (v.input ≡ Some i) × (v.out ≡ Some o) → IsThere K s (K.in_name i) → IsThere K s (K.out_name o) → (K.writing s o).sealed ≡ false → AreAt K s v
  new_at s v i o halves reads writes unsealed = record {
    reads = λ _. (i, halves.0, reads);
    writes = λ _. (o, halves.1, (writes, unsealed));
  }

none_active : (state : Option EndState) → state ≡ None → state ≡ Some Active → ⊥
none_active state e d = (let c : None ≡ Some Active = sym e ∙ d in absurd cc)

none_waiting : (state : Option EndState) → state ≡ None → state ≡ Some WaitDelimiter → ⊥
none_waiting state e d = (let c : None ≡ Some WaitDelimiter = sym e ∙ d in absurd cc)

none_readable : (state : Option EndState) → state ≡ None → IsReadable state → ⊥
none_readable state e (inl d) = none_active state e d
none_readable state e (inr d) = none_waiting state e d

-- before its pair is made
module _ {S O I N : Type 0} (K : Known S O I N) where
  pub alone_at : (s : S) (v : SessionState O I) → v.course.life.state ≡ None → AreAt K s v
  alone_at s v e = record {
    reads = λ r. absurd (none_readable v.course.life.state e r);
    writes = λ w. absurd (none_active v.course.life.state e w);
  }

pub new_state : {O I : Type 0} (b : Basis) (v : SessionState O I) → HasLived b (Given ∷ []) v → v.course.life.state ≡ None
new_state b v lived = sym (ap (λ (x : Standing). x.state) lived.2)

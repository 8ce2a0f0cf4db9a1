-- What a session keeps of the topics that it took.
use Rattle.std.proofs.Common.{◌≡◌, ℕ, zero, suc, Bool, true, false, List, [], ◌∷◌, ◌++◌, length, drop, Option, Some, None, refl, sym, ap, subst, ◌∙◌, inl, inr, append_assoc}
use Rattle.std.specs.Prelude.{◌⊎◌, ◌&&◌, if◌then◌else◌, IfSome, IsSome, option_map}
use Rattle.std.specs.List.{flat_map}
use Rattle.std.proofs.lemmas.List.{append-nil, length-append, drop-drop}
use Rattle.std.proofs.lemmas.List.Sums.{fold-append}
use Rattle.std.proofs.lemmas.List.Concat.{flat_map-append}
use Rattle.zq_base.specs.Message.{Frames}
use Rattle.zq_base.specs.Ends.{PipeId}
use Rattle.zq_base.specs.declared.options.EngineOpts.{EngineOpts}
use Rattle.zq_outer.specs.declared.link.LinkPut.{LinkPut}
use Rattle.zq_outer.specs.declared.link.LinkGot.{LinkGot}
use Rattle.spec_pattern.specs.Topics.{Topic}
use Rattle.spec_pattern.specs.Publishing.{saying_of}
use Rattle.spec_pattern.specs.Subscribing.{tell_message}
use Rattle.spec_link.specs.declared.row.LinkEnd.{LinkEnd}
use Rattle.spec_link.specs.LinkAct.{LinkAct, Wire, Repeats, taken_by, repeated_by, taken_of, repeated_of}
use Rattle.spec_link.specs.Parts.{IsTake, IsWritePart, write_acts, read_acts}
use Rattle.spec_link.specs.Rows.{ClosedLink}
use Rattle.spec_link.specs.History.{Basis, Standing}
use Rattle.spec_link.specs.Turn.{IsWriteOnly, WritesAt, IsNextOf, HasNext, CanRead, read_pipe, subscribes, topics_by, topics_taken, topics_due, topics_left}
use Rattle.spec_link.specs.TopicsFirst.{topics_said}
use Rattle.spec_link.specs.Topics.{Topics, IsLeft, with_again, made_again}
use Rattle.link_side.specs.declared.behind.Behind.{Behind}
use Rattle.link_side.specs.declared.behind.Behind.TheVariants.{Nothing, Octets, Unsaid}
use Rattle.link_side.specs.Kept.{Kept, Side, IsKeptOf}
use Rattle.link_side.specs.Calls.{put_acts}
use Rattle.zq_session.specs.TopicSteps.{noted, over_link, topics_for}
use Rattle.link_side.specs.Says.{IsFree}
use Rattle.zq_session.specs.Noting.{IsHeldOf, unsaid_by, unsaid_of, SaysNoTopics, taken_before, AreTopics, SaysAt, topics_with, behind_acts, WriteMode, taking, alone, saying, plain_mode, mode_by, mode_of}

-- ---- a side where no message waits

pub free_by : (b : Behind) → b ≡ Nothing → IsFree b
free_by b e = subst (λ (x : Behind). IsFree x) (sym e) tt

pub none_waits : (b : Behind) → IsFree b → unsaid_by b ≡ []
none_waits Nothing f = refl
none_waits Octets f = refl
none_waits (Unsaid m) f = absurd f

pub kept_free : (opts : EngineOpts) (acts : List LinkAct) (b : Behind) (k : Kept) → IsFree b → IsHeldOf opts acts b k → IsKeptOf opts acts k
kept_free opts acts Nothing k f h = h
kept_free opts acts Octets k f h = h
kept_free opts acts (Unsaid m) k f h = absurd f

pub held_free : (opts : EngineOpts) (acts : List LinkAct) (b : Behind) (k : Kept) → IsFree b → IsKeptOf opts acts k → IsHeldOf opts acts b k
held_free opts acts Nothing k f h = h
held_free opts acts Octets k f h = h
held_free opts acts (Unsaid m) k f h = absurd f

pub ease_at : (P : Side → Type 0) (o : Option Side) (sd : Side) → o ≡ Some sd → IfSome o P → P sd
ease_at P None sd e k = absurd cc
ease_at P (Some x) sd e k = subst P (same e) k
  where
    same : Some x ≡ Some sd → x ≡ sd
    same d = cc

-- ---- acts that take nothing and say nothing again

pub record Still (acts : List LinkAct) : Type 0 where
  pub takes : taken_of acts ≡ []
  pub repeats : repeated_of acts ≡ []

pub still_none : Still []
still_none = record { takes = refl; repeats = refl }

pub still_on : (xs ys : List LinkAct) → Still xs → Still ys → Still (xs ++ ys)
still_on xs ys p q = record {
  takes = flat_map-append taken_by xs ys ∙ ap (λ (l : List Frames). l ++ taken_of ys) p.takes ∙ q.takes;
  repeats = flat_map-append repeated_by xs ys ∙ ap (λ (l : List Frames). l ++ repeated_of ys) p.repeats ∙ q.repeats;
}

pub write_still : (answer : Option LinkPut) (octets : List ℕ) → Still (write_acts answer octets)
write_still None octets = record { takes = refl; repeats = refl }
write_still (Some a) octets = record { takes = refl; repeats = refl }

pub read_still : (answer : Option LinkGot) (octets : List ℕ) → Still (read_acts answer octets)
read_still None octets = record { takes = refl; repeats = refl }
read_still (Some a) octets = record { takes = refl; repeats = refl }

pub put_still : (pipe : PipeId) (ms : List Frames) (full : Bool) → Still (put_acts pipe ms full)
put_still pipe [] false = record { takes = refl; repeats = refl }
put_still pipe [] true = record { takes = refl; repeats = refl }
put_still pipe (m ∷ ms) full = (let k = put_still pipe ms full in record { takes = k.takes; repeats = k.repeats })

-- ---- the topics behind acts

abbrev pub made : Topics → (taken repeated : List Frames) → Option Topics
made t ms reps = Some (record { taken = topics_with t.taken ms; again = option_map (λ messages. drop (length reps) messages) t.again })

pub notes_of : (acts : List LinkAct) (ms reps : List Frames) (t : Topics) → taken_of acts ≡ ms → repeated_of acts ≡ reps → behind_acts acts (Some t) ≡ made t ms reps
notes_of acts ms reps t et er = ap (λ (l : List Frames). made t l (repeated_of acts)) et ∙ ap (λ (l : List Frames). made t ms l) er

pub drop_zero : {A : Type 0} (l : List A) → drop 0 l ≡ l
drop_zero [] = refl
drop_zero (x ∷ l) = refl

pub again_same : (again : Option (List Frames)) → option_map (λ messages. drop 0 messages) again ≡ again
again_same None = refl
again_same (Some l) = ap Some (drop_zero l)

pub notes_still : (acts : List LinkAct) (t : Option Topics) → Still acts → behind_acts acts t ≡ t
notes_still acts None k = refl
notes_still acts (Some t) k = notes_of acts [] [] t k.takes k.repeats ∙ ap (λ (a : Option (List Frames)). Some (record { taken = t.taken; again = a })) (again_same t.again)

-- ---- what is kept of the topics, step by step

pub topics_as : (d d' : Bool) (opts : EngineOpts) (link : Option (List LinkAct)) (closed : List ClosedLink) (side side' : Option Side) (t t' : Option Topics) → d' ≡ d → side' ≡ side → t' ≡ t
    → AreTopics d opts link closed (unsaid_of side) t → AreTopics d' opts link closed (unsaid_of side') t'
topics_as d d' opts link closed side side' t t' ed es et k =
    subst (λ (x : Bool). AreTopics x opts link closed (unsaid_of side') t') (sym ed)
    (subst (λ (x : Option Side). AreTopics d opts link closed (unsaid_of x) t') (sym es) (subst (λ (x : Option Topics). AreTopics d opts link closed (unsaid_of side) x) (sym et) k))

acts_topics : (dials : Bool) (opts : EngineOpts) (acts more : List LinkAct) (closed : List ClosedLink) (t : Option Topics) → AreTopics dials opts (Some acts) closed [] t → AreTopics dials opts (Some (acts ++ more)) closed [] (behind_acts more t)
acts_topics dials opts acts more closed None k = k
acts_topics dials opts acts more closed (Some t) k =
    let n = k.1 in (
      k.0,
      record {
        noted = n.noted ++ taken_of more;
        all = append-nil (n.noted ++ taken_of more) ∙ ap (λ (l : List Frames). l ++ taken_of more) (sym (append-nil n.noted) ∙ n.all) ∙ append_assoc (taken_before closed) (taken_of acts) (taken_of more)
            ∙ ap (λ (l : List Frames). taken_before closed ++ l) (sym (flat_map-append taken_by acts more));
        taken_is = ap (λ (l : List Topic). topics_with l (taken_of more)) n.taken_is ∙ sym (fold-append (λ ts m. topics_by (saying_of m) ts) [] n.noted (taken_of more));
        again_is = (let due = topics_said (topics_taken (taken_before closed)) in
            ap (λ (a : Option (List Frames)). option_map (λ messages. drop (length (repeated_of more)) messages) a) n.again_is
            ∙ ap Some (drop-drop (length (repeated_of more)) (length (repeated_of acts)) due
            ∙ ap (λ (x : ℕ). drop x due) (sym (length-append (repeated_of acts) (repeated_of more)) ∙ ap (λ (l : List Frames). length l) (sym (flat_map-append repeated_by acts more)))));
      },
    )

-- acts at a link, where no message waits before or behind them
pub topics_acts : (d d' : Bool) (opts : EngineOpts) (acts more : List LinkAct) (closed : List ClosedLink) (sd sd' : Side) (t t' : Option Topics) → d' ≡ d → IsFree sd.behind → IsFree sd'.behind → t' ≡ behind_acts more t
    → AreTopics d opts (Some acts) closed (unsaid_by sd.behind) t → AreTopics d' opts (Some (acts ++ more)) closed (unsaid_by sd'.behind) t'
topics_acts d d' opts acts more closed sd sd' t t' ed f f' et k =
    subst (λ (x : Bool). AreTopics x opts (Some (acts ++ more)) closed (unsaid_by sd'.behind) t') (sym ed)
    (subst (λ (l : List Frames). AreTopics d opts (Some (acts ++ more)) closed l t') (sym (none_waits sd'.behind f'))
    (subst (λ (x : Option Topics). AreTopics d opts (Some (acts ++ more)) closed [] x) (sym et)
    (acts_topics d opts acts more closed t (subst (λ (l : List Frames). AreTopics d opts (Some acts) closed l t) (none_waits sd.behind f) k))))

-- a link is over
pub topics_closed : (dials : Bool) (opts : EngineOpts) (acts : List LinkAct) (closed : List ClosedLink) (why : LinkEnd) (t : Option Topics) → AreTopics dials opts (Some acts) closed [] t
    → AreTopics dials opts None (closed ++ record { acts = acts; why = why } ∷ []) [] (over_link t)
topics_closed dials opts acts closed why None k = k
topics_closed dials opts acts closed why (Some t) k =
    let n = k.1 in
    let link : ClosedLink = record { acts = acts; why = why } in
    let f = λ (x : ClosedLink). taken_of x.acts in (
      k.0,
      record {
        noted = n.noted;
        all = n.all ∙ sym (append-nil (taken_before (closed ++ link ∷ [])) ∙ flat_map-append f closed (link ∷ []) ∙ ap (λ (l : List Frames). taken_before closed ++ l) (append-nil (taken_of acts)));
        taken_is = n.taken_is;
        again_is = tt;
      },
    )

-- the same, by the sides
pub topics_worked : (d d' : Bool) (opts : EngineOpts) (acts more : List LinkAct) (closed : List ClosedLink) (side side' : Option Side) (sd sd' : Side) (t t' : Option Topics) → side ≡ Some sd → side' ≡ Some sd' → d' ≡ d
    → IsFree sd.behind → IsFree sd'.behind → t' ≡ behind_acts more t → AreTopics d opts (Some acts) closed (unsaid_of side) t → AreTopics d' opts (Some (acts ++ more)) closed (unsaid_of side') t'
topics_worked d d' opts acts more closed side side' sd sd' t t' es es' ed f f' et k =
    subst (λ (x : Option Side). AreTopics d' opts (Some (acts ++ more)) closed (unsaid_of x) t') (sym es')
    (topics_acts d d' opts acts more closed sd sd' t t' ed f f' et (subst (λ (x : Option Side). AreTopics d opts (Some acts) closed (unsaid_of x) t) es k))

pub topics_over : (d d' : Bool) (opts : EngineOpts) (acts : List LinkAct) (closed : List ClosedLink) (why : LinkEnd) (side side' : Option Side) (sd : Side) (t t' : Option Topics) → side ≡ Some sd → side' ≡ None → d' ≡ d → IsFree sd.behind
    → t' ≡ over_link t → AreTopics d opts (Some acts) closed (unsaid_of side) t → AreTopics d' opts None (closed ++ record { acts = acts; why = why } ∷ []) (unsaid_of side') t'
topics_over d d' opts acts closed why side side' sd t t' es es' ed f et k =
    let link : ClosedLink = record { acts = acts; why = why } in
    let k0 : AreTopics d opts (Some acts) closed [] t =
    subst (λ (l : List Frames). AreTopics d opts (Some acts) closed l t) (none_waits sd.behind f) (subst (λ (x : Option Side). AreTopics d opts (Some acts) closed (unsaid_of x) t) es k) in
    subst (λ (x : Bool). AreTopics x opts None (closed ++ link ∷ []) (unsaid_of side') t') (sym ed)
    (subst (λ (x : Option Side). AreTopics d opts None (closed ++ link ∷ []) (unsaid_of x) t') (sym es')
    (subst (λ (x : Option Topics). AreTopics d opts None (closed ++ link ∷ []) [] x) (sym et) (topics_closed d opts acts closed why t k0)))

again_linked : (again : Option (List Frames)) (messages : List Frames) → IsSome again → IfSome again (λ l. l ≡ messages) → again ≡ Some (drop 0 messages)
again_linked None messages some k = absurd cc
again_linked (Some l) messages some k = ap Some (k ∙ sym (drop_zero messages))

-- a link is given
pub topics_linked : (dials : Bool) (opts : EngineOpts) (closed : List ClosedLink) (t : Option Topics) → IfSome t (λ x. IsSome x.again) → AreTopics dials opts None closed [] t → AreTopics dials opts (Some []) closed [] t
topics_linked dials opts closed None ready k = k
topics_linked dials opts closed (Some t) ready k =
    let n = k.1 in (k.0, record { noted = n.noted; all = n.all; taken_is = n.taken_is; again_is = again_linked t.again (topics_said (topics_taken (taken_before closed))) ready n.again_is })

pub topics_dialled : (d : Bool) (opts : EngineOpts) (link link' : Option (List LinkAct)) (closed : List ClosedLink) (side side' : Option Side) (sd : Side) (t : Option Topics) → link ≡ None → link' ≡ Some [] → side ≡ None → side' ≡ Some sd → IsFree sd.behind
    → IfSome t (λ x. IsSome x.again) → AreTopics d opts link closed (unsaid_of side) t → AreTopics d opts link' closed (unsaid_of side') t
topics_dialled d opts link link' closed side side' sd t el el' es es' f ready k =
    subst (λ (l : Option (List LinkAct)). AreTopics d opts l closed (unsaid_of side') t) (sym el')
    (subst (λ (x : Option Side). AreTopics d opts (Some []) closed (unsaid_of x) t) (sym es')
    (subst (λ (l : List Frames). AreTopics d opts (Some []) closed l t) (sym (none_waits sd.behind f))
    (topics_linked d opts closed t ready (subst (λ (l : Option (List LinkAct)). AreTopics d opts l closed [] t) el (subst (λ (x : Option Side). AreTopics d opts link closed (unsaid_of x) t) es k)))))

-- a message was taken that isn't offered yet
pub topics_unsaid : (dials : Bool) (opts : EngineOpts) (acts writes : List LinkAct) (closed : List ClosedLink) (m : Frames) (t : Option Topics) → taken_of writes ≡ m ∷ [] → repeated_of writes ≡ []
    → AreTopics dials opts (Some acts) closed [] t → AreTopics dials opts (Some (acts ++ writes)) closed (m ∷ []) t
topics_unsaid dials opts acts writes closed m None et er k = k
topics_unsaid dials opts acts writes closed m (Some t) et er k =
    let n = k.1 in (
      k.0,
      record {
        noted = n.noted;
        all = ap (λ (l : List Frames). l ++ m ∷ []) (sym (append-nil n.noted) ∙ n.all) ∙ append_assoc (taken_before closed) (taken_of acts) (m ∷ [])
            ∙ ap (λ (l : List Frames). taken_before closed ++ l) (ap (λ (l : List Frames). taken_of acts ++ l) (sym et) ∙ sym (flat_map-append taken_by acts writes));
        taken_is = n.taken_is;
        again_is = n.again_is ∙ ap (λ (l : List Frames). Some (drop (length l) (topics_said (topics_taken (taken_before closed)))))
            (sym (flat_map-append repeated_by acts writes ∙ ap (λ (l : List Frames). repeated_of acts ++ l) er ∙ append-nil (repeated_of acts)));
      },
    )

-- and is noted and offered
pub topics_passed : (dials : Bool) (opts : EngineOpts) (link : Option (List LinkAct)) (closed : List ClosedLink) (m : Frames) (t : Option Topics) → AreTopics dials opts link closed (m ∷ []) t → AreTopics dials opts link closed [] (noted m t)
topics_passed dials opts link closed m None k = k
topics_passed dials opts link closed m (Some t) k =
    let n = k.1 in (
      k.0,
      record {
        noted = n.noted ++ m ∷ [];
        all = append-nil (n.noted ++ m ∷ []) ∙ n.all;
        taken_is = ap (λ (l : List Topic). topics_by (saying_of m) l) n.taken_is ∙ sym (fold-append (λ ts x. topics_by (saying_of x) ts) [] n.noted (m ∷ []));
        again_is = n.again_is;
      },
    )

pub topics_waits : (d d' : Bool) (opts : EngineOpts) (acts writes : List LinkAct) (closed : List ClosedLink) (side side' : Option Side) (sd sd' : Side) (m : Frames) (t t' : Option Topics) → side ≡ Some sd → side' ≡ Some sd' → d' ≡ d
    → IsFree sd.behind → sd'.behind ≡ Unsaid m → t' ≡ t → taken_of writes ≡ m ∷ [] → repeated_of writes ≡ []
    → AreTopics d opts (Some acts) closed (unsaid_of side) t → AreTopics d' opts (Some (acts ++ writes)) closed (unsaid_of side') t'
topics_waits d d' opts acts writes closed side side' sd sd' m t t' es es' ed f waits et em er k =
    let k0 : AreTopics d opts (Some acts) closed [] t =
    subst (λ (l : List Frames). AreTopics d opts (Some acts) closed l t) (none_waits sd.behind f) (subst (λ (x : Option Side). AreTopics d opts (Some acts) closed (unsaid_of x) t) es k) in
    subst (λ (x : Bool). AreTopics x opts (Some (acts ++ writes)) closed (unsaid_of side') t') (sym ed)
    (subst (λ (x : Option Side). AreTopics d opts (Some (acts ++ writes)) closed (unsaid_of x) t') (sym es')
    (subst (λ (b : Behind). AreTopics d opts (Some (acts ++ writes)) closed (unsaid_by b) t') (sym waits)
    (subst (λ (x : Option Topics). AreTopics d opts (Some (acts ++ writes)) closed (m ∷ []) x) (sym et) (topics_unsaid d opts acts writes closed m t em er k0))))

again_made : (taken due : List Topic) (again : Option (List Frames)) → taken ≡ due → IfSome again (λ l. l ≡ topics_said due) → IfSome (made_again taken again) (λ l. l ≡ topics_said due)
again_made taken due None e k = ap (λ (l : List Topic). topics_said l) e
again_made taken due (Some l) e k = k

-- the messages for the next link are made
pub topics_ready : (dials : Bool) (opts : EngineOpts) (closed : List ClosedLink) (t : Option Topics) → AreTopics dials opts None closed [] t → AreTopics dials opts None closed [] (option_map (λ x. with_again x) t)
topics_ready dials opts closed None k = k
topics_ready dials opts closed (Some t) k =
    let n = k.1 in
    let due = topics_taken (taken_before closed) in (
      k.0,
      record {
        noted = n.noted;
        all = n.all;
        taken_is = n.taken_is;
        again_is = again_made t.taken due t.again (n.taken_is ∙ ap (λ (l : List Frames). topics_taken l) (sym (append-nil n.noted) ∙ n.all ∙ append-nil (taken_before closed))) n.again_is;
      },
    )

pub says_at : (dials : Bool) (opts : EngineOpts) (acts : List LinkAct) (closed : List ClosedLink) (unsaid : List Frames) (t : Option Topics) → AreTopics dials opts (Some acts) closed unsaid t → SaysAt dials opts closed acts t
says_at dials opts acts closed unsaid None k = k
says_at dials opts acts closed unsaid (Some t) k = (k.0, k.1.again_is)

-- ---- how the writing part is done

pub plain_left : (can_read : Bool) (again : Option (List Frames)) → IsLeft false again → mode_by can_read again ≡ plain_mode can_read
plain_left can_read None k = refl
plain_left can_read (Some []) k = refl
plain_left can_read (Some (m ∷ rest)) k = absurd (k m rest refl)

pub saying_left : (can_read : Bool) (again : Option (List Frames)) (m : Frames) → mode_by can_read again ≡ saying m → (rest : List Frames) × (again ≡ Some (m ∷ rest))
saying_left true None m e = absurd cc
saying_left false None m e = absurd cc
saying_left true (Some []) m e = absurd cc
saying_left false (Some []) m e = absurd cc
saying_left can_read (Some (n ∷ rest)) m e = (rest, ap (λ (x : Frames). Some (x ∷ rest)) (same e))
  where
    same : saying n ≡ saying m → n ≡ m
    same d = cc

drop_said : (n : ℕ) (l : List Topic) → drop n (topics_said l) ≡ topics_said (drop n l)
drop_said zero [] = refl
drop_said (suc n) [] = refl
drop_said zero (x ∷ l) = refl
drop_said (suc n) (x ∷ l) = drop_said n l

due_if : (b : Bool) (l : List Topic) → b ≡ true → (if b then l else []) ≡ l
due_if true l e = refl
due_if false l e = absurd cc

says_part : (b : Basis) (x : Topic) (xs : List Topic) (acts more : List LinkAct) → IsWritePart b.opts (λ act. act ≡ Wire (Repeats (tell_message (1, x)))) acts more → IsWritePart b.opts (IsNextOf (read_pipe b) (x ∷ xs)) acts more
says_part b x xs acts more w = record {
  answer = w.answer;
  octets = w.octets;
  takes = w.takes;
  all = w.all;
  fits = w.fits;
  none = w.none;
  some = w.some;
  over = w.over;
  take = w.take;
  wait = w.wait;
}

-- ---- the writing part by the topics that are left

drop_none : {A : Type 0} (n : ℕ) (l : List A) → l ≡ [] → drop n l ≡ []
drop_none zero [] e = refl
drop_none (suc n) [] e = refl
drop_none n (x ∷ l) e = absurd cc

no_topics : {A : Type 0} (says : Bool) (topics : List A) → says ≡ false → (if says then topics else []) ≡ []
no_topics true topics e = absurd cc
no_topics false topics e = refl

-- one that has no topics to say again
no_topics_left : (b : Basis) (s : Standing) (acts : List LinkAct) → SaysNoTopics b.dials b.opts → topics_left b s acts ≡ []
no_topics_left b s acts e =
    drop_none (length (repeated_of acts)) (topics_due b s.closed) (no_topics (b.dials && subscribes b.opts.kind) (topics_taken (flat_map (λ (link : ClosedLink). taken_of link.acts) s.closed)) e)

-- the writing part where these topics are left
abbrev pub WritesWith : Basis → Standing → List Topic → (acts more : List LinkAct) → Type 0
WritesWith b s topics acts more =
    (HasNext s topics × IsWritePart b.opts (IsNextOf (read_pipe b) topics) acts more) ⊎ ((HasNext s topics → ⊥) × IsWriteOnly b acts more)

next_part : (b : Basis) (acts more : List LinkAct) → IsWritePart b.opts (IsTake (read_pipe b)) acts more → IsWritePart b.opts (IsNextOf (read_pipe b) []) acts more
next_part b acts more w = record {
  answer = w.answer;
  octets = w.octets;
  takes = w.takes;
  all = w.all;
  fits = w.fits;
  none = w.none;
  some = w.some;
  over = w.over;
  take = w.take;
  wait = w.wait;
}

-- by the topics that are left
module _ (b : Basis) (s : Standing) (acts more : List LinkAct) (can_read : Bool) (sure : can_read ≡ true → CanRead s) (never : can_read ≡ false → CanRead s → ⊥) where
  plain_with : (mode : WriteMode) → mode ≡ plain_mode can_read → (mode ≡ taking → IsWritePart b.opts (IsTake (read_pipe b)) acts more) → (mode ≡ alone → IsWriteOnly b acts more) → WritesWith b s [] acts more
  plain_with mode e takes lone = by can_read refl e
    where
      by : (c : Bool) → c ≡ can_read → mode ≡ plain_mode c → WritesWith b s [] acts more
      by true is d = inl (sure (sym is), next_part b acts more (takes d))
      by false is d = inr (never (sym is), lone d)

  with_left : (left : List Topic) (again : Option (List Frames)) → again ≡ Some (topics_said left)
      → (mode_by can_read again ≡ taking → IsWritePart b.opts (IsTake (read_pipe b)) acts more) → (mode_by can_read again ≡ alone → IsWriteOnly b acts more)
      → ((m : Frames) → mode_by can_read again ≡ saying m → IsWritePart b.opts (λ act. act ≡ Wire (Repeats m)) acts more) → WritesWith b s left acts more
  with_left [] again e takes lone says = plain_with (mode_by can_read again) (ap (λ (a : Option (List Frames)). mode_by can_read a) e) takes lone
  with_left (x ∷ xs) again e takes lone says =
      inl (tt, says_part b x xs acts more (says (tell_message (1, x)) (ap (λ (a : Option (List Frames)). mode_by can_read a) e)))

  pub writes_now : (t : Option Topics) → SaysAt b.dials b.opts s.closed acts t
      → (mode_of can_read t ≡ taking → IsWritePart b.opts (IsTake (read_pipe b)) acts more) → (mode_of can_read t ≡ alone → IsWriteOnly b acts more)
      → ((m : Frames) → mode_of can_read t ≡ saying m → IsWritePart b.opts (λ act. act ≡ Wire (Repeats m)) acts more) → WritesAt b s acts more
  writes_now None plain takes lone says =
      subst (λ (l : List Topic). WritesWith b s l acts more) (sym (no_topics_left b s acts plain)) (plain_with (plain_mode can_read) refl takes lone)
  writes_now (Some t) k takes lone says =
      let due = topics_taken (taken_before s.closed) in
      let n = length (repeated_of acts) in
      let left : topics_left b s acts ≡ drop n due = ap (λ (l : List Topic). drop n l) (due_if (b.dials && subscribes b.opts.kind) due k.0) in
      subst (λ (l : List Topic). WritesWith b s l acts more) (sym left) (with_left (drop n due) t.again (k.1 ∙ ap Some (drop_said n due)) takes lone says)

-- before any link
pub topics_begin : (opts : EngineOpts) (b : Bool) → subscribes opts.kind ≡ b → AreTopics true opts None [] [] (topics_for b)
topics_begin opts true e = (e, record { noted = []; all = refl; taken_is = refl; again_is = tt })
topics_begin opts false e = e

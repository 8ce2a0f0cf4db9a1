-- The two parts of a turn with what their answers tell of them, and whether they moved.
use Rattle.std.proofs.Common.{◌≡◌, ℕ, Bool, true, false, List, [], ◌∷◌, ◌++◌, Option, Some, None, refl, sym, ap, subst, ◌∙◌, inl, inr, length}
use Rattle.std.specs.Prelude.{Contains}
use Rattle.std.specs.List.{flat_map}
use Rattle.std.proofs.lemmas.List.{append-nil}
use Rattle.zq_base.specs.Message.{Frames}
use Rattle.zq_base.specs.Ends.{PipeId}
use Rattle.zq_base.specs.declared.options.EngineOpts.{EngineOpts}
use Rattle.zq_outer.specs.declared.link.LinkGot.{LinkGot}
use Rattle.zq_outer.specs.declared.link.LinkPut.{LinkPut}
use Rattle.zq_outer.specs.declared.link.LinkPut.TheVariants as link_put
use Rattle.msg_pipe.specs.Known.{Known}
use Rattle.msg_pipe.specs.declared.pipes.Taken.TheVariants as taken
use Rattle.spec_pattern.specs.PipeStep.{PipeStep, Take, DelimiterLook, read_through}
use Rattle.spec_link.specs.declared.row.LinkEnd.{LinkEnd}
use Rattle.spec_link.specs.LinkAct.{LinkAct, Wire, Step, Repeats, said_by, heard_by, taken_by, repeated_by, said_of, heard_of}
use Rattle.spec_link.specs.Parts.{IsTake, write_acts, read_acts}
use Rattle.spec_link.specs.History.{Standing}
use Rattle.spec_link.specs.Turn.{IsEndedBy}
use Rattle.link_side.specs.declared.wire.Fetched.{Fetched}
use Rattle.link_side.specs.declared.wire.Fetched.TheVariants as fetched
use Rattle.link_side.specs.declared.write_part.Written.{Written}
use Rattle.zq_session.specs.declared.life.Life.{Life}
use Rattle.zq_session.specs.declared.life.ReadMode.{ReadMode}
use Rattle.link_side.specs.Kept.{Kept, Side}
use Rattle.link_side.specs.Calls.{Adds, put_acts}
use Rattle.zq_session.specs.Lives.{basis_of, standing_of}
use Rattle.zq_session.specs.LifeView.{IsReadable}
use Rattle.zq_session.specs.Halves.{StepsRun, step_in}
use Rattle.zq_session.specs.Doing.{ReadsAtBy, ReadsAs, IsFor}
use Rattle.spec_link.specs.Topics.{Topics}
use Rattle.zq_session.specs.Noting.{NextBy, UnsaidBy, Next, Takes, Says, next_acts, next_look, mode_of}
use Rattle.zq_session.proofs.NotingLemmas.{writes_now, still_on, write_still, read_still, put_still}
use Rattle.zq_session.proofs.UnputLemmas.{does_these, unput_write, unput_next, tells_as, write_part_as, write_only_as}
use Rattle.std.specs.Prelude.{◌||◌, map, IsSome}
use Rattle.std.specs.List.{list_any}
use Rattle.std.proofs.lemmas.List.Folds.{list_any-append}
use Rattle.zq_outer.specs.declared.link.LinkGot.TheVariants as link_got
use Rattle.spec_link.specs.declared.due.Due.{Due}
use Rattle.spec_link.specs.LinkAct.{taken_of, repeated_of}
use Rattle.spec_link.specs.History.{SessionEvent, Acted}
use Rattle.spec_link.specs.Moving.{act_moves, has_moved}
use Rattle.spec_link.specs.Turn.{DueOnce, WritesAt}
use Rattle.link_side.specs.declared.read_part.Heard.{Heard}
use Rattle.link_side.specs.declared.behind.Behind.TheVariants.{Unsaid}
use Rattle.link_side.specs.Kept.{IsKeptOf, KeepsActs}
use Rattle.link_side.specs.Calls.{is_some_put}
use Rattle.zq_session.specs.Lives.{Story}
use Rattle.zq_session.specs.LastActs.{end_by_put, end_by_got}
use Rattle.zq_session.specs.Moved.{moved_put, moved_got, moved_look, writing_moved, reading_moved}
use Rattle.zq_session.specs.Noting.{SaysAt, behind_acts}
use Rattle.zq_session.proofs.NotingLemmas.{Still}
use Rattle.zq_session.proofs.MovedLemmas.{moved_on}
use Rattle.zq_session.proofs.ActLemmas.{added, write_says, write_hears, write_steps, take_says, take_hears, read_says, read_hears, read_steps, put_says, put_hears, writing, reading, ends_writing, ends_reading, writing_ends, reading_ends, put_of, got_of, met_in, unmet_in, taking_alone, taking_saying}
use Rattle.zq_session.proofs.CountingLemmas.{takes_next}
use Rattle.zq_session.specs.Tallies.{TalliesNext, with_takes}
use Rattle.zq_session.specs.declared.tally.Tally.{Tally}

-- ---- whether something moved

-- one of two, where the second is
or_true : (b : Bool) → (b || true) ≡ true
or_true true = refl
or_true false = refl

-- where the last moved, all did
pub moved_behind : (xs ys : List SessionEvent) → has_moved ys ≡ true → has_moved (xs ++ ys) ≡ true
moved_behind xs ys e = sym (moved_on xs ys (has_moved xs) true refl (sym e)) ∙ or_true (has_moved xs)

pub moved_acts : (acts : List LinkAct) → has_moved (map (λ a. Acted a) acts) ≡ list_any act_moves acts
moved_acts [] = refl
moved_acts (a ∷ acts) =
    sym (moved_on (Acted a ∷ []) (map (λ a. Acted a) acts) (has_moved (Acted a ∷ [])) (list_any act_moves acts) refl (sym (moved_acts acts))) ∙ sym (list_any-append act_moves (a ∷ []) acts)

both_moved : (a b c d : Bool) → a ≡ c → b ≡ d → (a || b) ≡ (c || d)
both_moved a b c d e k = ap (λ (x : Bool). x || b) e ∙ ap (λ (x : Bool). c || x) k

write_moved : (put : Option LinkPut) (octets : List ℕ) → list_any act_moves (write_acts put octets) ≡ moved_put put
write_moved None octets = refl
write_moved (Some (link_put.Took n)) octets = refl
write_moved (Some link_put.NotReady) octets = refl
write_moved (Some link_put.Ended) octets = refl
write_moved (Some link_put.Failed) octets = refl

next_moved : (pipe : PipeId) (next : Next) → list_any act_moves (next_acts pipe next) ≡ moved_look (next_look next)
next_moved pipe (Takes None) = refl
next_moved pipe (Takes (Some (taken.Item m))) = refl
next_moved pipe (Takes (Some taken.Empty)) = refl
next_moved pipe (Takes (Some taken.Delimiter)) = refl
next_moved pipe (Says None) = refl
next_moved pipe (Says (Some m)) = refl

read_moved : (got : Option LinkGot) (octets : List ℕ) → list_any act_moves (read_acts got octets) ≡ moved_got got
read_moved None octets = refl
read_moved (Some (link_got.Bytes n)) octets = refl
read_moved (Some link_got.NotReady) octets = refl
read_moved (Some link_got.Ended) octets = refl
read_moved (Some link_got.Failed) octets = refl

puts_moved : (pipe : PipeId) (ms : List Frames) (full : Bool) → list_any act_moves (put_acts pipe ms full) ≡ is_some_put ms
puts_moved pipe [] false = refl
puts_moved pipe [] true = refl
puts_moved pipe (m ∷ ms) full = refl

-- a take that met the delimiter moved
pub met_moved : (done : Written) → done.look ≡ Some fetched.Delimiter → writing_moved done ≡ true
met_moved done e = ap (λ (l : Option Fetched). moved_put done.put || moved_look l) e ∙ or_true (moved_put done.put)

-- what became due by it is no more
pub moved_marks : (acts : List LinkAct) (s : Standing) (P : Type 0) (x : Due) (events : List SessionEvent) → DueOnce s P x events → (P → list_any act_moves acts ≡ true) → has_moved (map (λ a. Acted a) acts ++ events) ≡ list_any act_moves acts
moved_marks acts s P x events (inl e) f =
    moved_behind (map (λ a. Acted a) acts) events (ap (λ (l : List SessionEvent). has_moved l) e.1) ∙ sym (f e.0.0)
moved_marks acts s P x events (inr e) f =
    ap (λ (l : List SessionEvent). has_moved (map (λ a. Acted a) acts ++ l)) e.1 ∙ ap (λ (l : List SessionEvent). has_moved l) (append-nil (map (λ a. Acted a) acts)) ∙ moved_acts acts

-- ---- the parts, with what their answers tell of them

module _ {S O I N : Type 0} (K : Known S O I N) where
  -- the writing part
  pub record WroteBy (l : Life) (t t' : Option Topics) (y y' : Tally) (old : Kept) (done : Written) (new : Kept) (said said' : Option (List ℕ)) (shown : List LinkAct → Type 0) (s : S) (i : Option I) (o : Option O) (s' : S) (i' : Option I) : Type 0 where
    pub writes : List LinkAct
    pub said_is : Adds said (said_of writes) said'
    pub hears : heard_of writes ≡ []
    pub shown_is : shown writes
    pub steps : StepsRun K (flat_map step_in writes) s i o s' i' o
    pub run : (opts : EngineOpts) → KeepsActs opts old writes new
    pub notes : t' ≡ behind_acts writes t
    pub part : (p : Story) (acts : List LinkAct) → SaysAt l.dials p.opts p.closed acts t → IsKeptOf p.opts acts old → WritesAt (basis_of l p) (standing_of l p) acts writes
    pub met : done.look ≡ Some fetched.Delimiter → Contains writes (Step (DelimiterLook (read_through l.end)))
    pub unmet : (done.look ≡ Some fetched.Delimiter → ⊥) → Contains writes (Step (DelimiterLook (read_through l.end))) → ⊥
    pub ends : (cause : LinkEnd) → IsEndedBy writes cause → end_by_put done.put ≡ Some cause
    pub over : (cause : LinkEnd) → end_by_put done.put ≡ Some cause → IsEndedBy writes cause
    pub moved : list_any act_moves writes ≡ writing_moved done
    pub takes : TalliesNext (with_takes (length (taken_of writes))) y y'

  pub wrote_by : (shown : List LinkAct → Type 0) (l : Life) (t t' : Option Topics) (y y' : Tally) (can_read : Bool) (k0 k1 : Kept) (done : Written) (said said' : Option (List ℕ)) (s s1 : S) (i i1 : Option I) (o : Option O)
      → ((x : List ℕ) (n : Next) → shown (writing done.put x (read_through l.end) n))
      → (can_read ≡ true → IsReadable l.state) → (can_read ≡ false → IsReadable l.state → ⊥) → NextBy K (λ n. TalliesNext (with_takes n) y y') (mode_of can_read t) t t' k0 done k1 said said' s i s1 i1
      → WroteBy l t t' y y' k0 done k1 said said' shown s i o s1 i1
  wrote_by shown l t t' y y' can_read k0 k1 done said said' s s1 i i1 o shows sure never w =
      let inward = read_through l.end in
      let writes = writing done.put w.octets inward w.next in
      record {
        writes = writes;
        said_is = subst (λ (x : List ℕ). Adds said x said') (sym (added said_by (write_acts done.put w.octets) (next_acts inward w.next) w.octets [] (write_says done.put w.octets w.fits) (take_says inward w.next) ∙ append-nil w.octets)) w.told;
        hears = added heard_by (write_acts done.put w.octets) (next_acts inward w.next) [] [] (write_hears done.put w.octets) (take_hears inward w.next);
        shown_is = shows w.octets w.next;
        steps = subst (λ (x : List PipeStep). StepsRun K x s i o s1 i1 o)
            (sym (added step_in (write_acts done.put w.octets) (next_acts inward w.next) [] (flat_map step_in (next_acts inward w.next)) (write_steps done.put w.octets) refl))
            (w.steps inward o);
        run = λ opts. does_these opts k0 k1 writes (unput_next done.put w.octets inward w.next) (w.run inward);
        notes = w.notes inward;
        part = λ p acts silent run. writes_now (basis_of l p) (standing_of l p) acts writes can_read sure never t silent
            (λ e. write_part_as p.opts (IsTake inward) run.all acts writes (tells_as p.opts acts k0 run) (w.takes e inward p.opts run.all run.run))
            (λ e. write_only_as (basis_of l p) run.all acts writes (tells_as p.opts acts k0 run) (w.alone_is e inward (basis_of l p) run.all run.run))
            (λ x e. write_part_as p.opts (λ act. act ≡ Wire (Repeats x)) run.all acts writes (tells_as p.opts acts k0 run) (w.says x e inward p.opts run.all run.run));
        met = λ e. met_in done.put w.octets inward w.next done.look w.look e;
        unmet = λ e. unmet_in done.put w.octets inward w.next done.look w.look e;
        ends = λ cause e. (let k = ends_writing done.put w.octets inward w.next cause e in ap (λ (x : Option LinkPut). end_by_put x) k.1 ∙ k.2);
        over = λ cause e. (let k = put_of done.put cause e in writing_ends done.put w.octets (next_acts inward w.next) k.0 cause k.1 k.2);
        moved = list_any-append act_moves (write_acts done.put w.octets) (next_acts inward w.next)
            ∙ both_moved (list_any act_moves (write_acts done.put w.octets)) (list_any act_moves (next_acts inward w.next)) (moved_put done.put) (moved_look done.look)
            (write_moved done.put w.octets) (next_moved inward w.next ∙ ap (λ (x : Option Fetched). moved_look x) (sym w.look));
        takes = subst (λ (n : ℕ). TalliesNext (with_takes n) y y') (takes_next done.put w.octets inward w.next) w.counted;
      }

  -- of which a message couldn't be noted
  pub record UnnotedBy (l : Life) (t t' : Option Topics) (old : Kept) (new : Side) (said said' : Option (List ℕ)) (shown : List LinkAct → Type 0) (s : S) (i : Option I) (o : Option O) (s' : S) (i' : Option I) : Type 0 where
    pub before : List LinkAct
    pub message : Frames
    pub some : IsSome t
    pub said_is : Adds said (said_of (before ++ Step (Take (read_through l.end) message) ∷ [])) said'
    pub hears : heard_of (before ++ Step (Take (read_through l.end) message) ∷ []) ≡ []
    pub shown_is : shown (before ++ Step (Take (read_through l.end) message) ∷ [])
    pub steps : StepsRun K (flat_map step_in (before ++ Step (Take (read_through l.end) message) ∷ [])) s i o s' i' o
    pub left : new.behind ≡ Unsaid message
    pub same : t' ≡ t
    pub takes : taken_of (before ++ Step (Take (read_through l.end) message) ∷ []) ≡ message ∷ []
    pub repeats : repeated_of (before ++ Step (Take (read_through l.end) message) ∷ []) ≡ []
    pub run : (opts : EngineOpts) → KeepsActs opts old before new.kept
    pub part : (p : Story) (acts : List LinkAct) → SaysAt l.dials p.opts p.closed acts t → IsKeptOf p.opts acts old → WritesAt (basis_of l p) (standing_of l p) acts (before ++ Step (Take (read_through l.end) message) ∷ [])

  pub unnoted_by : (tried : Option LinkPut → Type 0) (shown : List LinkAct → Type 0) (l : Life) (t t' : Option Topics) (can_read : Bool) (k0 : Kept) (new : Side) (said said' : Option (List ℕ)) (s s1 : S) (i i1 : Option I) (o : Option O)
      → ((a : Option LinkPut) (x : List ℕ) (m : Frames) → tried a → shown (write_acts a x ++ Step (Take (read_through l.end) m) ∷ []))
      → (can_read ≡ true → IsReadable l.state) → (can_read ≡ false → IsReadable l.state → ⊥) → UnsaidBy K (mode_of can_read t) t t' k0 new said said' tried s i s1 i1
      → UnnotedBy l t t' k0 new said said' shown s i o s1 i1
  unnoted_by tried shown l t t' can_read k0 new said said' s s1 i i1 o shows sure never u =
      let inward = read_through l.end in
      let before = write_acts u.put u.octets in
      let take = Step (Take inward u.message) ∷ [] in
      let writes = before ++ take in
      record {
        before = before;
        message = u.message;
        some = u.some;
        said_is = subst (λ (x : List ℕ). Adds said x said') (sym (added said_by before take u.octets [] (write_says u.put u.octets u.fits) refl ∙ append-nil u.octets)) u.told;
        hears = added heard_by before take [] [] (write_hears u.put u.octets) refl;
        shown_is = shows u.put u.octets u.message u.counts;
        steps = subst (λ (x : List PipeStep). StepsRun K x s i o s1 i1 o) (sym (added step_in before take [] (Take inward u.message ∷ []) (write_steps u.put u.octets) refl)) (u.steps inward o);
        left = u.left;
        same = u.same;
        takes = added taken_by before take [] (u.message ∷ []) (write_still u.put u.octets).takes refl;
        repeats = added repeated_by before take [] [] (write_still u.put u.octets).repeats refl;
        run = λ opts. does_these opts k0 new.kept before (unput_write u.put u.octets) u.run;
        part = λ p acts says run. writes_now (basis_of l p) (standing_of l p) acts writes can_read sure never t says
            (λ e. write_part_as p.opts (IsTake inward) run.all acts writes (tells_as p.opts acts k0 run) (u.takes inward p.opts run.all run.run))
            (λ e. taking_alone (mode_of can_read t) _ u.mode_is e)
            (λ x e. taking_saying (mode_of can_read t) x _ u.mode_is e);
      }

  -- the reading part
  pub record ReadBy (how : ReadMode) (pipe : PipeId) (old : Kept) (done : Heard) (new : Kept) (heard heard' : Option (List ℕ)) (shown : List LinkAct → Type 0) (s : S) (o : Option O) (s' : S) (o' : Option O) : Type 0 where
    pub reads : List LinkAct
    pub says : said_of reads ≡ []
    pub heard_is : Adds heard (heard_of reads) heard'
    pub shown_is : shown reads
    pub steps : (i : Option I) → StepsRun K (flat_map step_in reads) s i o s' i o'
    pub still : Still reads
    pub run : (opts : EngineOpts) → IsFor how opts → KeepsActs opts old reads new
    pub part : (opts : EngineOpts) (acts : List LinkAct) → IsFor how opts → IsKeptOf opts acts old → ReadsAs how opts pipe acts reads
    pub ends : (cause : LinkEnd) → IsEndedBy reads cause → end_by_got done.got ≡ Some cause
    pub over : (cause : LinkEnd) → end_by_got done.got ≡ Some cause → IsEndedBy reads cause
    pub moved : list_any act_moves reads ≡ reading_moved done

  pub read_by : (shown : List LinkAct → Type 0) (how : ReadMode) (pipe : PipeId) (k0 k1 : Kept) (done : Heard) (heard heard' : Option (List ℕ)) (s s1 : S) (o o1 : Option O)
      → ((y : List ℕ) (ms : List Frames) (full : Bool) → shown (reading done.got y pipe ms full)) → ReadsAtBy K how k0 done k1 heard heard' s o s1 o1
      → ReadBy how pipe k0 done k1 heard heard' shown s o s1 o1
  read_by shown how pipe k0 k1 done heard heard' s s1 o o1 shows r =
      let reads = reading done.got r.octets pipe r.messages r.full in
      record {
        reads = reads;
        says = added said_by (read_acts done.got r.octets) (put_acts pipe r.messages r.full) [] [] (read_says done.got r.octets) (put_says pipe r.messages r.full);
        heard_is = subst (λ (x : List ℕ). Adds heard x heard') (sym (added heard_by (read_acts done.got r.octets) (put_acts pipe r.messages r.full) r.octets [] (read_hears done.got r.octets r.fits) (put_hears pipe r.messages r.full) ∙ append-nil r.octets)) r.told;
        shown_is = shows r.octets r.messages r.full;
        steps = λ i. subst (λ (x : List PipeStep). StepsRun K x s i o s1 i o1)
            (sym (added step_in (read_acts done.got r.octets) (put_acts pipe r.messages r.full) [] (flat_map step_in (put_acts pipe r.messages r.full)) (read_steps done.got r.octets) refl)) (r.steps pipe i);
        still = still_on (read_acts done.got r.octets) (put_acts pipe r.messages r.full) (read_still done.got r.octets) (put_still pipe r.messages r.full);
        run = r.run pipe;
        part = r.part pipe;
        ends = λ cause e. (let k = ends_reading done.got r.octets pipe r.messages r.full cause e in ap (λ (x : Option LinkGot). end_by_got x) k.1 ∙ k.2);
        over = λ cause e. (let k = got_of done.got cause e in reading_ends done.got r.octets (put_acts pipe r.messages r.full) k.0 cause k.1 k.2);
        moved = list_any-append act_moves (read_acts done.got r.octets) (put_acts pipe r.messages r.full)
            ∙ both_moved (list_any act_moves (read_acts done.got r.octets)) (list_any act_moves (put_acts pipe r.messages r.full)) (moved_got done.got) done.put
            (read_moved done.got r.octets) (puts_moved pipe r.messages r.full ∙ sym r.put_is);
      }

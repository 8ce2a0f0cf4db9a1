-- What a look at the front of a pipe finds is settled by the steps past, and what follows from a letter by what it found.
use Rattle.std.specs.Prelude.{◌≡◌, ◌==◌, ℕ, Bool, true, false, List, [], ◌∷◌, ◌++◌, filter, length, map, refl}
use Rattle.std.proofs.Common.{arith, sym, ap, ◌∙◌, subst, true≢false}
use Rattle.std.proofs.Math.ListN.{get_or-append}
use Rattle.std.proofs.lemmas.List.{length-map}
use Rattle.zq_base.specs.Ends.{PipeId}
use Rattle.zq_base.specs.declared.ids.EndId.{EndId}
use Rattle.spec_pattern.specs.PipeStep.{PipeStep, EmptyLook, WaitingLook, DelimiterLook, Follows, read_through}
use Rattle.spec_control.specs.declared.letter.Word.{Word}
use Rattle.spec_control.specs.declared.letter.Word.TheVariants.{Own, Plug, TermReq, Term, TermAck, PipeBind, PipeTerm, PipeTermAck, Stop, Reap}
use Rattle.spec_control.specs.declared.entry.Joining.{Joining}
use Rattle.spec_control.specs.declared.entry.Did.{Did}
use Rattle.spec_control.specs.declared.entry.Did.TheVariants.{Delimited}
use Rattle.spec_control.specs.declared.entry.Item.{Item}
use Rattle.spec_control.specs.declared.entry.Item.TheVariants.{Event, Seen}
use Rattle.spec_control.specs.Row.{is_socket, nobody}
use Rattle.spec_control.specs.Rows.{obj}
use Rattle.spec_control.specs.Control.{Control, place_of, owner_of}
use Rattle.spec_control.specs.After.{after}
use Rattle.spec_control.specs.ControlRun.{Fits, FitsItem, Joins, after_item}
use Rattle.control_laws.specs.OwnMoves.{own_moves}
use Rattle.control_laws.proofs.SoundLemmas.{socket_there}
use Rattle.spec_control.specs.Moments.{Moment}
use Rattle.spec_run.specs.Act.{Act, Step, Said, steps_in, moments_in}
use Rattle.spec_run.specs.OpenSocket.{OpenSock, awaits_delimiter, attach_all, sock_after, PassesItems}
use Rattle.spec_run.specs.Event.{IsDelimited, LooksFront, finds_none, finds_one, finds_end, LooksFronts, LooksWhere, LooksBehind, seals_in, acts_said}
use Rattle.replay_laws.specs.Blank.{blank, delimited}
use Rattle.replay_laws.proofs.BlankLemmas.{counts_are_not_read}
use Rattle.replay_laws.proofs.SlotLemmas.{Mark, mark, marks, mark_in, mark_of, marks_after, made}
use Rattle.replay_laws.proofs.WalkLemmas.{leaves, Walks, moments_on, walks_front, walks_behind, no_moments_sealed, Reached, reached_item, Same, same_none, same_both, said_same}
use Rattle.replay_laws.proofs.AlikeLemmas.{as_joins}
use Rattle.replay_laws.proofs.LetterLemmas.{Sits, kept_of, moment, sock_same}

pub none_joined : {N : Type 0} (js : List (Joining N)) → map as_joins js ≡ [] → js ≡ []
none_joined [] e = refl
none_joined (j ∷ js) e = absurd (nope e)
  where
    nope : ◌≡◌ {A = List Joins} (as_joins j ∷ map as_joins js) [] → ⊥
    nope f = cc

-- what a look finds is one thing alone
no_two : {A : Type 0} (cap cup : PipeId → ℕ) (past : List PipeStep) (q : PipeId) → Follows cap past (EmptyLook q) → Follows cup past (WaitingLook q) → A
no_two cap cup past q f g = absurd (let h = f.0 in omega (arith, h, g))

no_end : {A : Type 0} (cap cup : PipeId → ℕ) (past : List PipeStep) (q : PipeId) → Follows cap past (EmptyLook q) → Follows cup past (DelimiterLook q) → A
no_end cap cup past q f g = absurd (true≢false (sym g.1 ∙ f.1))

no_one : {A : Type 0} (cap cup : PipeId → ℕ) (past : List PipeStep) (q : PipeId) → Follows cap past (WaitingLook q) → Follows cup past (DelimiterLook q) → A
no_one cap cup past q f g = absurd (let h = g.0 in omega (arith, h, f))

module _ {N S : Type 0} where
  -- ---- a socket goes on sitting where it sits
  stays_there : (c : Control) → Reached N S c → (did : Did N S) → Fits c did → (i : ℕ) → is_socket (obj c.rows i).kind ≡ true → mark (obj (after did c).rows i) ≡ mark (obj c.rows i)
  stays_there c r did fits i is =
      let there = socket_there c.rows i is in
      let many : length (marks c.rows.objects) ≡ length c.rows.objects = length-map c.rows.objects mark in
      sym (mark_of (after did c).rows i) ∙ ap (λ l. mark_in l i) (marks_after c did (kept_of c r) fits)
      ∙ get_or-append (marks c.rows.objects) (marks (made (own_moves c did))) (mark nobody) i (omega (arith, there, many)) ∙ mark_of c.rows i

  pub sits_item : (item : Item N S) (c : Control) → Reached N S c → FitsItem c item → (s : OpenSock) → Sits c s → Sits (after_item item c) s
  sits_item (Event entry) c r fits s sits =
      let same = stays_there c r entry.did fits s.object sits.socket in
      record { socket = ap (λ (m : Mark). is_socket m.kind) same ∙ sits.socket; slot = ap (λ (m : Mark). m.slot) same ∙ sits.slot }
  sits_item (Seen sight) c r fits s sits = sits

  pub sits_on : (cap : PipeId → ℕ) (xs : List (Act N S)) (c : Control) (past : List PipeStep) → Reached N S c → Walks cap c past xs → (s : OpenSock) → Sits c s → Sits (leaves c xs) s
  sits_on cap [] c past r w s sits = sits
  sits_on cap (Step x ∷ xs) c past r w s sits = sits_on cap xs c (past ++ x ∷ []) r w.1 s sits
  sits_on cap (Said m ∷ xs) c past r w s sits = sits_on cap xs (after_item m.item c) past (reached_item m.item c r w.1) w.2 s (sits_item m.item c r w.1 s sits)

  -- ---- one step before
  same_step : (c d : Control) (x : PipeStep) (xs ys : List (Act N S)) → Same c d xs ys → Same c d (Step x ∷ xs) (Step x ∷ ys)
  same_step c d x xs ys same = record { steps = ap (λ l. x ∷ l) same.steps; states = same.states }

  -- the moment is the event, found in this state
  pub moment_is : (m : Moment N S) (c : Control) (by : ℕ) (did : Did N S) → m.found ≡ c → m.item ≡ Event (record { by = by; did = did }) → m ≡ moment c by did
  moment_is m c by did found item = λ i. record { found = found i; item = item i }

  pub moments_said : (m : Moment N S) (xs : List (Act N S)) → moments_in (acts_said m ++ xs) ≡ m ∷ moments_in xs
  moments_said m xs = moments_on (acts_said m) xs ∙ ap (λ l. (m ∷ l) ++ moments_in xs) (no_moments_sealed N S (seals_in m))

  -- ---- looks
  -- what two looks at one end find is one, and leaves the socket the same
  pub record LookSame (c d : Control) (xs ys : List (Act N S)) : Type 0 where
    pub same : Same c d xs ys
    pub pass : (s u v : OpenSock) → PassesItems (moments_in xs) s u → PassesItems (moments_in ys) s v → u ≡ v

  pub look_none : (c d : Control) → blank c ≡ blank d → LookSame c d [] []
  look_none c d p = record { same = same_none c d p; pass = λ s u v f g. f ∙ sym g }

  pub look_as : (c d : Control) (xs ys us vs : List (Act N S)) → xs ≡ us → ys ≡ vs → LookSame c d us vs → LookSame c d xs ys
  look_as c d xs ys us vs p q look = subst (λ l. LookSame c d l ys) (sym p) (subst (LookSame c d us) (sym q) look)

  one_step : (c d : Control) (x : PipeStep) → blank c ≡ blank d → LookSame c d (Step x ∷ []) (Step x ∷ [])
  one_step c d x p = record { same = record { steps = refl; states = p }; pass = λ s u v f g. f ∙ sym g }

  both_ends : (cap cup : PipeId → ℕ) (c d : Control) (past : List PipeStep) (e : EndId) (m n : Moment N S) → blank c ≡ blank d → IsDelimited e m → IsDelimited e n
      → Walks cap c past (acts_said m) → Walks cup d past (acts_said n) → LookSame c d (acts_said m) (acts_said n)
  both_ends cap cup c d past e m n p mine yours w v =
      let g = mine.answered in
      let h = yours.answered in
      let one = moment_is m c mine.by (Delimited e g) w.0 mine.item_is in
      let other = moment_is n d yours.by (Delimited e h) v.0 yours.item_is in
      let states : blank (after (Delimited e g) c) ≡ blank (after (Delimited e h) d) = counts_are_not_read (Delimited e g) (Delimited e h) c d (delimited e g h refl refl) p in
      let fits : Fits c (Delimited e g) = subst (FitsItem c) mine.item_is w.1 in
      let also : Fits d (Delimited e h) = subst (FitsItem d) yours.item_is v.1 in
      let none = none_joined g.joined fits.answered.joined in
      let nobody_joins = none_joined h.joined also.answered.joined in
      record {
        same = said_same cap cup c d past m n w v p (ap (λ it. blank (after_item it c)) mine.item_is ∙ states ∙ sym (ap (λ it. blank (after_item it d)) yours.item_is));
        pass = λ s u v2 f f2.
            let first = subst (λ l. PassesItems l s u) (ap (λ l. m ∷ l) (no_moments_sealed N S (seals_in m))) f in
            let second = subst (λ l. PassesItems l s v2) (ap (λ l. n ∷ l) (no_moments_sealed N S (seals_in n))) f2 in
            first.1 ∙ ap (λ k. sock_after k s) one
            ∙ sock_same (moment c mine.by (Delimited e g)) (moment d yours.by (Delimited e h)) s states refl
            (ap (λ (l : List (Joining N)). attach_all (filter (λ j. owner_of (after (Delimited e g) c) j.end == s.object) l) s.pattern) none
            ∙ sym (ap (λ (l : List (Joining N)). attach_all (filter (λ j. owner_of (after (Delimited e h) d) j.end == s.object) l) s.pattern) nobody_joins))
            ∙ sym (ap (λ k. sock_after k s) other) ∙ sym second.1;
      }

  pub look_same : (cap cup : PipeId → ℕ) (c d : Control) (past : List PipeStep) (e : EndId) (xs ys : List (Act N S)) → blank c ≡ blank d → LooksFront e xs → LooksFront e ys
      → Walks cap c past xs → Walks cup d past ys → LookSame c d xs ys
  look_same cap cup c d past e xs ys p (finds_none f) (finds_none g) w v = look_as c d xs ys _ _ f g (one_step c d (EmptyLook (read_through e)) p)
  look_same cap cup c d past e xs ys p (finds_one f) (finds_one g) w v = look_as c d xs ys _ _ f g (one_step c d (WaitingLook (read_through e)) p)
  look_same cap cup c d past e xs ys p (finds_none f) (finds_one g) w v =
      no_two cap cup past (read_through e) (subst (Walks cap c past) f w).0 (subst (Walks cup d past) g v).0
  look_same cap cup c d past e xs ys p (finds_one f) (finds_none g) w v =
      no_two cup cap past (read_through e) (subst (Walks cup d past) g v).0 (subst (Walks cap c past) f w).0
  look_same cap cup c d past e xs ys p (finds_none f) (finds_end n said g) w v =
      no_end cap cup past (read_through e) (subst (Walks cap c past) f w).0 (subst (Walks cup d past) g v).0
  look_same cap cup c d past e xs ys p (finds_end m said f) (finds_none g) w v =
      no_end cup cap past (read_through e) (subst (Walks cup d past) g v).0 (subst (Walks cap c past) f w).0
  look_same cap cup c d past e xs ys p (finds_one f) (finds_end n said g) w v =
      no_one cap cup past (read_through e) (subst (Walks cap c past) f w).0 (subst (Walks cup d past) g v).0
  look_same cap cup c d past e xs ys p (finds_end m said f) (finds_one g) w v =
      no_one cup cap past (read_through e) (subst (Walks cup d past) g v).0 (subst (Walks cap c past) f w).0
  look_same cap cup c d past e xs ys p (finds_end m said f) (finds_end n also g) w v =
      let look = DelimiterLook (read_through e) in
      let rest = both_ends cap cup c d (past ++ look ∷ []) e m n p said also (subst (Walks cap c past) f w).1 (subst (Walks cup d past) g v).1 in
      look_as c d xs ys (Step look ∷ acts_said m) (Step look ∷ acts_said n) f g
      (record { same = same_step c d look (acts_said m) (acts_said n) rest.same; pass = rest.pass })

  -- looks that follow one another
  pub passes_on : (ms ns : List (Moment N S)) (s u : OpenSock) → PassesItems (ms ++ ns) s u → (t : OpenSock) × PassesItems ms s t × PassesItems ns t u
  passes_on [] ns s u f = (s, refl, f)
  passes_on (m ∷ ms) ns s u f = let rest = passes_on ms ns (sock_after m s) u f.1 in (rest.0, (f.0, rest.1), rest.2)

  pub look_both : (c d : Control) (xs ys us vs : List (Act N S)) → LookSame c d xs ys → LookSame (leaves c xs) (leaves d ys) us vs → LookSame c d (xs ++ us) (ys ++ vs)
  look_both c d xs ys us vs one other = record {
    same = same_both c d xs ys us vs one.same other.same;
    pass = λ s u v f g.
        let a = passes_on (moments_in xs) (moments_in us) s u (subst (λ l. PassesItems l s u) (moments_on xs us) f) in
        let b = passes_on (moments_in ys) (moments_in vs) s v (subst (λ l. PassesItems l s v) (moments_on ys vs) g) in
        let mid = one.pass s a.0 b.0 a.1 b.1 in
        other.pass a.0 u v a.2 (subst (λ t. PassesItems (moments_in vs) t v) (sym mid) b.2);
  }

  -- the walk of what stands behind, from the same steps
  pub behind_walks : (cup : PipeId → ℕ) (c d : Control) (past : List PipeStep) (xs ys us : List (Act N S)) → Same c d xs ys → Walks cup d past (ys ++ us) → Walks cup (leaves d ys) (past ++ steps_in xs) us
  behind_walks cup c d past xs ys us same w = subst (λ l. Walks cup (leaves d ys) (past ++ l) us) (sym same.steps) (walks_behind cup ys us d past w)

  pub looks_same : (cap cup : PipeId → ℕ) (es : List EndId) (c d : Control) (past : List PipeStep) (xs ys : List (Act N S)) → blank c ≡ blank d → LooksFronts es xs → LooksFronts es ys
      → Walks cap c past xs → Walks cup d past ys → LookSame c d xs ys
  looks_same cap cup [] c d past xs ys p f g w v = look_as c d xs ys [] [] f g (look_none c d p)
  looks_same cap cup (e ∷ es) c d past xs ys p (a, b, f, fs, is) (a2, b2, g, gs, is2) w v =
      let one = subst (Walks cap c past) is w in
      let other = subst (Walks cup d past) is2 v in
      let first = look_same cap cup c d past e a a2 p f g (walks_front cap a b c past one) (walks_front cup a2 b2 d past other) in
      let rest = looks_same cap cup es (leaves c a) (leaves d a2) (past ++ steps_in a) b b2 first.same.states fs gs (walks_behind cap a b c past one) (behind_walks cup c d past a a2 b2 first.same other) in
      look_as c d xs ys (a ++ b) (a2 ++ b2) is is2 (look_both c d a a2 b b2 first rest)

  -- ---- behind a letter
  where_same : (cap cup : PipeId → ℕ) (x y : Bool) (c d : Control) (past : List PipeStep) (e : EndId) (xs ys : List (Act N S)) → x ≡ y → blank c ≡ blank d → LooksWhere x e xs → LooksWhere y e ys
      → Walks cap c past xs → Walks cup d past ys → LookSame c d xs ys
  where_same cap cup true true c d past e xs ys q p f g w v = look_same cap cup c d past e xs ys p f g w v
  where_same cap cup false false c d past e xs ys q p f g w v = look_as c d xs ys [] [] f g (look_none c d p)
  where_same cap cup true false c d past e xs ys q p f g w v = absurd (true≢false q)
  where_same cap cup false true c d past e xs ys q p f g w v = absurd (true≢false (sym q))

  pub behind_same : (cap cup : PipeId → ℕ) (word : Word) (c d : Control) (past : List PipeStep) (xs ys : List (Act N S)) → blank c ≡ blank d → LooksBehind c word xs → LooksBehind d word ys
      → Walks cap c past xs → Walks cup d past ys → LookSame c d xs ys
  behind_same cap cup (PipeTerm e) c d past xs ys p f g w v =
      where_same cap cup _ _ c d past e xs ys (ap (λ (x : Control). awaits_delimiter (place_of x e)) p) p f g w v
  behind_same cap cup (Own child) c d past xs ys p f g w v = look_as c d xs ys [] [] f g (look_none c d p)
  behind_same cap cup (Plug end) c d past xs ys p f g w v = look_as c d xs ys [] [] f g (look_none c d p)
  behind_same cap cup (TermReq child) c d past xs ys p f g w v = look_as c d xs ys [] [] f g (look_none c d p)
  behind_same cap cup Term c d past xs ys p f g w v = look_as c d xs ys [] [] f g (look_none c d p)
  behind_same cap cup (TermAck child) c d past xs ys p f g w v = look_as c d xs ys [] [] f g (look_none c d p)
  behind_same cap cup (PipeBind e peer) c d past xs ys p f g w v = look_as c d xs ys [] [] f g (look_none c d p)
  behind_same cap cup (PipeTermAck e) c d past xs ys p f g w v = look_as c d xs ys [] [] f g (look_none c d p)
  behind_same cap cup Stop c d past xs ys p f g w v = look_as c d xs ys [] [] f g (look_none c d p)
  behind_same cap cup (Reap socket) c d past xs ys p f g w v = look_as c d xs ys [] [] f g (look_none c d p)

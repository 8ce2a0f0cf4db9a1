-- What an actor's step does is settled by what it found, by how the actor stands, and by the steps past.
use Rattle.std.specs.Prelude.{◌≡◌, ◌<◌, ◌≤◌, ◌||◌, ℕ, Bool, true, false, List, [], ◌∷◌, ◌++◌, All, length, map, refl}
use Rattle.std.proofs.Common.{arith, sym, ap, ◌∙◌, subst, append-nil}
use Rattle.std.proofs.lemmas.List.Elements.{All-weaker, All-head, All-tail}
use Rattle.control_laws.proofs.ListLemmas.{never}
use Rattle.control_laws.specs.Kept.{Kept}
use Rattle.control_laws.proofs.AskLemmas.{same_end}
use Rattle.control_laws.specs.Move.{Move, move_rows, move_boxes, Leads}
use Rattle.control_laws.specs.OwnMoves.{having_taken}
use Rattle.control_laws.proofs.WeighLemmas.{taken_rows}
use Rattle.control_laws.proofs.MoveLemmas.{move_many}
use Rattle.spec_control.specs.declared.letter.Letter.{Letter}
use Rattle.spec_control.specs.Rows.{Rows}
use Rattle.std.specs.List.{list_any}
use Rattle.zq_base.specs.Ends.{PipeId}
use Rattle.zq_base.specs.declared.ids.EndId.{EndId}
use Rattle.spec_pattern.specs.PipeStep.{PipeStep}
use Rattle.spec_pattern.specs.Peers.{kept_ends}
use Rattle.spec_pattern.specs.WholeLaws.{AgreeOn}
use Rattle.spec_pattern.proofs.KeepCallLemmas.{calls_keep_peers}
use Rattle.spec_control.specs.declared.letter.Word.{Word}
use Rattle.spec_control.specs.declared.letter.Word.TheVariants.{Own, Plug, TermReq, Term, TermAck, PipeBind, PipeTerm, PipeTermAck, Stop, Reap}
use Rattle.spec_control.specs.declared.entry.Did.{Did}
use Rattle.spec_control.specs.declared.entry.Item.{Item}
use Rattle.spec_control.specs.declared.entry.Item.TheVariants.{Event, Seen}
use Rattle.spec_control.specs.Control.{Control, is_end, next_pair}
use Rattle.spec_control.specs.After.{after}
use Rattle.spec_control.specs.Reply.{root_asked}
use Rattle.spec_control.specs.ControlRun.{Fits, FitsItem, after_item, after_all, IsControlRun}
use Rattle.spec_run.specs.OwnedRun.{pipe_capacity}
use Rattle.run_laws.specs.CapacitiesStay.{CapacitiesStay}
use Rattle.control_laws.proofs.EventGoLemmas.{event_goes}
use Rattle.control_laws.proofs.AttachedOnceLemmas.{IsOld}
use Rattle.spec_control.specs.Moments.{Moment, left_by, items_in}
use Rattle.spec_run.specs.Act.{Act, Step, Said, Try, steps_in, moments_in}
use Rattle.spec_run.specs.OpenSocket.{OpenSock, can_write, waiting_ends, sock_after, PassesItems}
use Rattle.spec_run.specs.Event.{LooksFront, finds_none, finds_one, finds_end, LooksFronts, LooksWhere, LooksBehind, TakesLetter, TakesLetters, acts_said}
use Rattle.spec_run.specs.Pump.{EndsTaking, took_all, found_empty, Pumps}
use Rattle.spec_run.specs.SocketCall.{leave_asked}
use Rattle.spec_run.specs.Standing.{Sockets, CallsOpen, with_open}
use Rattle.replay_laws.specs.Blank.{blank}
use Rattle.replay_laws.proofs.WalkLemmas.{leaves, Walks, leaves_on, moments_on, walks_front, walks_behind, steps_alone, Reached, reached_item, reached_on, Same, same_both}
use Rattle.replay_laws.proofs.OwnJoinLemmas.{old_of}
use Rattle.replay_laws.proofs.LetterLemmas.{kept_of}
use Rattle.replay_laws.proofs.LookLemmas.{moments_said, behind_walks}
use Rattle.replay_laws.proofs.PumpLemmas.{all_in, pump_same}
use Rattle.replay_laws.proofs.StandLemmas.{IsIn, Stands, its_letter, its_delimiter, its_look, OwnItems, own_both, stands_on, stands_called}
use Rattle.replay_laws.proofs.CallLemmas.{CallSame, From}

leads_many : (ms : List Move) (s : Rows) (boxes : ℕ → List Letter) (d : Control) → Leads ms s boxes d → length s.pairs ≤ next_pair d
leads_many [] s boxes d h = let e = ap (λ (r : Rows). length r.pairs) h.0 in omega (arith, e)
leads_many (m ∷ ms) s boxes d h =
    let first = move_many m s in
    let rest = leads_many ms (move_rows m s) (move_boxes m s boxes) d h.1 in
    omega (arith, first, rest)

-- pairs never go
pairs_grow : {N S : Type 0} (c : Control) (did : Did N S) → Kept c → Fits c did → next_pair c ≤ next_pair (after did c)
pairs_grow c did kept fits =
    let g = event_goes c did kept fits in
    let all = leads_many g.moves (having_taken did c).rows (having_taken did c).boxes (after did c) g.leads in
    let same = ap (λ (r : Rows). length r.pairs) (taken_rows did c) in
    omega (arith, all, same)

-- two capacities agree at the pipes of all pairs that there are
abbrev pub Agree : (cap cup : PipeId → ℕ) → Control → Type 0
Agree cap cup c = (e : EndId) → e.pair.0 < next_pair c → cap e ≡ cup e

-- these are the capacities at the end of a run that goes on from this state
pub record Ahead (N S : Type 0) (cap : PipeId → ℕ) (c : Control) : Type 0 where
  pub more : List (Item N S)
  pub run : IsControlRun c more
  pub cap_is : (e : EndId) → cap e ≡ pipe_capacity (after_all more c) e
  pub stay : CapacitiesStay N S

module _ {N S : Type 0} where
  -- ---- the items of a pump are the socket's own
  own_looked : (slot object : ℕ) (e : EndId) (acts : List (Act N S)) → LooksFront e acts → OwnItems slot object (moments_in acts)
  own_looked slot object e acts (finds_none f) = subst (λ l. OwnItems slot object (moments_in l)) (sym f) tt
  own_looked slot object e acts (finds_one f) = subst (λ l. OwnItems slot object (moments_in l)) (sym f) tt
  own_looked slot object e acts (finds_end m said f) =
      subst (λ l. OwnItems slot object l) (sym (ap moments_in f ∙ sym (ap moments_in (append-nil (acts_said m))) ∙ moments_said m []))
      (its_delimiter said.by e said.answered said.item_is, tt)

  own_looks : (slot object : ℕ) (es : List EndId) (acts : List (Act N S)) → LooksFronts es acts → OwnItems slot object (moments_in acts)
  own_looks slot object [] acts f = subst (λ l. OwnItems slot object (moments_in l)) (sym f) tt
  own_looks slot object (e ∷ es) acts (a, b, f, fs, is) =
      subst (λ l. OwnItems slot object l) (sym (ap moments_in is ∙ moments_on a b)) (own_both slot object (moments_in a) (moments_in b) (own_looked slot object e a f) (own_looks slot object es b fs))

  own_where : (slot object : ℕ) (b : Bool) (e : EndId) (acts : List (Act N S)) → LooksWhere b e acts → OwnItems slot object (moments_in acts)
  own_where slot object true e acts f = own_looked slot object e acts f
  own_where slot object false e acts f = subst (λ l. OwnItems slot object (moments_in l)) (sym f) tt

  own_none : (slot object : ℕ) (acts : List (Act N S)) → acts ≡ [] → OwnItems slot object (moments_in acts)
  own_none slot object acts f = subst (λ l. OwnItems slot object (moments_in l)) (sym f) tt

  own_behind : (slot object : ℕ) (c : Control) (word : Word) (acts : List (Act N S)) → LooksBehind c word acts → OwnItems slot object (moments_in acts)
  own_behind slot object c (PipeTerm e) acts f = own_where slot object _ e acts f
  own_behind slot object c (Own child) acts f = own_none slot object acts f
  own_behind slot object c (Plug end) acts f = own_none slot object acts f
  own_behind slot object c (TermReq child) acts f = own_none slot object acts f
  own_behind slot object c Term acts f = own_none slot object acts f
  own_behind slot object c (TermAck child) acts f = own_none slot object acts f
  own_behind slot object c (PipeBind e peer) acts f = own_none slot object acts f
  own_behind slot object c (PipeTermAck e) acts f = own_none slot object acts f
  own_behind slot object c Stop acts f = own_none slot object acts f
  own_behind slot object c (Reap socket) acts f = own_none slot object acts f

  pub own_taken : (slot object : ℕ) (acts : List (Act N S)) → TakesLetter slot acts → OwnItems slot object (moments_in acts)
  own_taken slot object acts t =
      subst (λ l. OwnItems slot object l) (sym (ap moments_in t.acts_are ∙ moments_said t.taken t.looks))
      (its_letter t.delivery.by t.letter t.delivery.answered t.delivery.item_is, own_behind slot object (left_by t.taken) t.letter.word t.looks t.behind)

  own_letters : (slot object : ℕ) (ls : List (List (Act N S))) → TakesLetters slot ls → OwnItems slot object (moments_in (all_in ls))
  own_letters slot object [] t = tt
  own_letters slot object (x ∷ ls) t =
      subst (λ l. OwnItems slot object l) (sym (moments_on x (all_in ls))) (own_both slot object (moments_in x) (moments_in (all_in ls)) (own_taken slot object x t.0) (own_letters slot object ls t.1))

  own_last : (slot object k : ℕ) (acts : List (Act N S)) → EndsTaking slot k acts → OwnItems slot object (moments_in acts)
  own_last slot object k acts (took_all all none) = own_none slot object acts none
  own_last slot object k acts (found_empty m few look is) = subst (λ l. OwnItems slot object (moments_in l)) (sym is) (its_look look.sight look.item_is, tt)

  passed_object : (ms : List (Moment N S)) (s u : OpenSock) → PassesItems ms s u → (u.slot ≡ s.slot) × (u.object ≡ s.object)
  passed_object [] s u f = (ap (λ (x : OpenSock). x.slot) f, ap (λ (x : OpenSock). x.object) f)
  passed_object (m ∷ ms) s u f = passed_object ms (sock_after m s) u f.1

  -- ---- how the socket stands in a pump
  module _ (cap : PipeId → ℕ) (c : Control) (past : List PipeStep) (s u : OpenSock) (xs : List (Act N S)) (r : Reached N S c) (w : Walks cap c past xs) (stands : Stands c s) (f : Pumps s xs u) where
    abbrev front : List (Act N S)
    front = all_in f.letters ++ f.last

    abbrev steps : List (Act N S)
    steps = map (λ step. Step step) f.steps

    walk : Walks cap c past (front ++ (steps ++ f.looks))
    walk = subst (Walks cap c past) f.acts_are w

    pub heard_stands : Stands (leaves c (all_in f.letters ++ f.last)) f.heard
    heard_stands =
        stands_on cap front c past s f.heard r (walks_front cap front (steps ++ f.looks) c past walk)
        (subst (λ l. OwnItems s.slot s.object l) (sym (moments_on (all_in f.letters) f.last)) (own_both s.slot s.object (moments_in (all_in f.letters)) (moments_in f.last) (own_letters s.slot s.object f.letters f.takes) (own_last s.slot s.object (length f.letters) f.last f.ends)))
        f.hears stands

    pub pumped_stands : Stands (leaves c xs) u
    pumped_stands =
        let c1 = leaves c front in
        let on = walks_behind cap front (steps ++ f.looks) c past walk in
        let told : OpenSock = record f.heard { pattern = f.pattern } in
        let now = stands_called c1 f.heard f.pattern (calls_keep_peers.pumps (can_write f.heard) f.heard.pattern (record { steps = f.steps; new = f.pattern }) f.pumps) heard_stands in
        let at = steps_alone N S f.steps c1 in
        let reached = reached_on cap front c past r (walks_front cap front (steps ++ f.looks) c past walk) in
        let w2 = walks_behind cap steps f.looks c1 (past ++ steps_in front) on in
        let last = stands_on cap f.looks (leaves c1 steps) ((past ++ steps_in front) ++ steps_in steps) told u (subst (Reached N S) (sym at) reached) w2
        (own_looks told.slot told.object (waiting_ends f.heard) f.looks f.looks_are) f.meets (subst (λ (x : Control). Stands x told) (sym at) now) in
        subst (λ (x : Control). Stands x u) (sym (ap (leaves c) f.acts_are ∙ leaves_on front (steps ++ f.looks) c ∙ leaves_on steps f.looks c1)) last

  -- ---- capacities
  event_many : (c : Control) → Reached N S c → (did : Did N S) → Fits c did → next_pair c ≤ next_pair (after did c)
  event_many c r did fits = pairs_grow c did (kept_of c r) fits

  many_on : (cap : PipeId → ℕ) (xs : List (Act N S)) (c : Control) (past : List PipeStep) → Reached N S c → Walks cap c past xs → next_pair c ≤ next_pair (leaves c xs)
  many_on cap [] c past r w = omega arith
  many_on cap (Step x ∷ xs) c past r w = many_on cap xs c (past ++ x ∷ []) r w.1
  many_on cap (Said m ∷ xs) c past r w =
      let rest = many_on cap xs (after_item m.item c) past (reached_item m.item c r w.1) w.2 in
      let first = item_many m.item c r w.1 in
      omega (arith, first, rest)
    where
      item_many : (item : Item N S) (d : Control) → Reached N S d → FitsItem d item → next_pair d ≤ next_pair (after_item item d)
      item_many (Event entry) d q fits = event_many d q entry.did fits
      item_many (Seen sight) d q fits = omega arith

  -- what a run goes on with
  items_run : (cap : PipeId → ℕ) (xs : List (Act N S)) (c : Control) (past : List PipeStep) (more : List (Item N S)) → Walks cap c past xs → IsControlRun (leaves c xs) more
      → IsControlRun c (items_in (moments_in xs) ++ more) × (after_all (items_in (moments_in xs) ++ more) c ≡ after_all more (leaves c xs))
  items_run cap [] c past more w run = (run, refl)
  items_run cap (Step x ∷ xs) c past more w run = items_run cap xs c (past ++ x ∷ []) more w.1 run
  items_run cap (Said m ∷ xs) c past more w run = let rest = items_run cap xs (after_item m.item c) past more w.2 run in ((w.1, rest.0), rest.1)

  pub ahead_before : (cap own : PipeId → ℕ) (xs : List (Act N S)) (c : Control) (past : List PipeStep) → Walks own c past xs → Ahead N S cap (leaves c xs) → Ahead N S cap c
  ahead_before cap own xs c past w ahead =
      let on = items_run own xs c past ahead.more w ahead.run in
      record { more = items_in (moments_in xs) ++ ahead.more; run = on.0; cap_is = λ e. ahead.cap_is e ∙ ap (λ (x : Control). pipe_capacity x e) (sym on.1); stay = ahead.stay }

  -- capacities stay as they are found
  found_capacity : (cap : PipeId → ℕ) (c : Control) → Reached N S c → Ahead N S cap c → (e : EndId) → e.pair.0 < next_pair c → cap e ≡ pipe_capacity c e
  found_capacity cap c r ahead e within =
      ahead.cap_is e ∙ subst (λ (x : Control). IsControlRun x ahead.more → e.pair.0 < next_pair x → pipe_capacity (after_all ahead.more x) e ≡ pipe_capacity x e) r.is
      (λ run there. ahead.stay 1 r.items ahead.more r.run run e there) ahead.run within

  agree_of : (cap cup : PipeId → ℕ) (c d : Control) → blank c ≡ blank d → Reached N S c → Reached N S d → Ahead N S cap c → Ahead N S cup d → Agree cap cup c
  agree_of cap cup c d p r q ahead ahead_too e within =
      found_capacity cap c r ahead e within ∙ ap (λ (x : Control). pipe_capacity x e) p
      ∙ sym (found_capacity cup d q ahead_too e (subst (λ n. e.pair.0 < n) (ap (λ (x : Control). next_pair x) p) within))

  -- the ends that a socket keeps are of such pairs
  pub agree_kept : (cap cup : PipeId → ℕ) (c : Control) (s : OpenSock) → Reached N S c → Stands c s → Agree cap cup c → AgreeOn cap cup (kept_ends s.pattern)
  agree_kept cap cup c s r stands agree =
      All-weaker (IsIn c.attached) (λ e. cap e ≡ cup e) (λ e there. agree e (within c.attached (old_of c r) e there)) (kept_ends s.pattern) stands.keeps.ends
    where
      within : (es : List EndId) → All (IsOld c) es → (e : EndId) → IsIn es e → e.pair.0 < next_pair c
      within [] old e there = absurd (never there)
      within (x ∷ es) old e there = by (is_end e x) refl there (within es (All-tail (IsOld c) x es old) e)
        where
          by : (b : Bool) → is_end e x ≡ b → (b || list_any (is_end e) es) ≡ true → (IsIn es e → e.pair.0 < next_pair c) → e.pair.0 < next_pair c
          by true is h rest = let first = All-head (IsOld c) x es old in subst (λ (z : EndId). z.pair.0 < next_pair c) (sym (same_end e x is)) first.within
          by false is h rest = rest h

  -- ---- whether the last item left the root asked
  no_item : (xs : List (Act N S)) (c : Control) → moments_in xs ≡ [] → leaves c xs ≡ c
  no_item [] c none = refl
  no_item (Step x ∷ xs) c none = no_item xs c none
  no_item (Said m ∷ xs) c none = absurd (nope none)
    where
      nope : ◌≡◌ {A = List (Moment N S)} (m ∷ moments_in xs) [] → ⊥
      nope e = cc

  abbrev has_item : List (Moment N S) → Bool
  has_item [] = false
  has_item (m ∷ ms) = true

  asked_is : (cap : PipeId → ℕ) (xs : List (Act N S)) (c : Control) (past : List PipeStep) → Walks cap c past xs → has_item (moments_in xs) ≡ true → leave_asked (moments_in xs) ≡ root_asked (leaves c xs)
  asked_is cap [] c past w some = absurd (never some)
  asked_is cap (Step x ∷ xs) c past w some = asked_is cap xs c (past ++ x ∷ []) w.1 some
  asked_is cap (Said m ∷ xs) c past w some = by (moments_in xs) refl (asked_is cap xs (after_item m.item c) past w.2)
    where
      by : (ms : List (Moment N S)) → moments_in xs ≡ ms → (has_item (moments_in xs) ≡ true → leave_asked (moments_in xs) ≡ root_asked (leaves (after_item m.item c) xs))
          → leave_asked (m ∷ moments_in xs) ≡ root_asked (leaves (after_item m.item c) xs)
      by [] e rest = ap (λ l. leave_asked (m ∷ l)) e ∙ ap (λ (x : Control). root_asked (after_item m.item x)) w.0 ∙ sym (ap root_asked (no_item xs (after_item m.item c) e))
      by (n ∷ ns) e rest = ap (λ l. leave_asked (m ∷ l)) e ∙ sym (ap leave_asked e) ∙ rest (ap has_item e)

  has_both : (ms ns : List (Moment N S)) → has_item ms ≡ true → has_item (ms ++ ns) ≡ true
  has_both [] ns some = absurd (never some)
  has_both (m ∷ ms) ns some = refl

  pump_has : (s u : OpenSock) (xs : List (Act N S)) → Pumps s xs u → has_item (moments_in xs) ≡ true
  pump_has s u xs f =
      ap (λ l. has_item (moments_in l)) f.acts_are ∙ ap has_item (moments_on (all_in f.letters ++ f.last) _) ∙ has_both (moments_in (all_in f.letters ++ f.last)) _ (front_has f.letters f.takes f.last f.ends)
    where
      front_has : (ls : List (List (Act N S))) → TakesLetters s.slot ls → (last : List (Act N S)) → EndsTaking s.slot (length ls) last → has_item (moments_in (all_in ls ++ last)) ≡ true
      front_has [] t last (took_all all none) = absurd (no_letters all)
        where
          no_letters : ◌≡◌ {A = ℕ} 0 64 → ⊥
          no_letters e = omega (arith, e)
      front_has [] t last (found_empty m few look is) = ap (λ l. has_item (moments_in l)) is
      front_has (x ∷ ls) t last e =
          ap has_item (moments_on (x ++ all_in ls) last) ∙ has_both (moments_in (x ++ all_in ls)) (moments_in last)
          (ap has_item (moments_on x (all_in ls)) ∙ has_both (moments_in x) (moments_in (all_in ls)) (ap has_item (ap moments_in t.0.acts_are ∙ moments_said t.0.taken t.0.looks)))

  -- ---- a pump and a call
  -- two calls from one socket are one
  abbrev pub OneCall : (PipeId → ℕ) → (PipeId → ℕ) → (OpenSock → Try N S → OpenSock → Type 0) → Type 0
  OneCall cap cup Does = (c d : Control) (past : List PipeStep) (s : OpenSock) (t x : Try N S) → From cap cup c d past s t x → (u v : OpenSock) → Does s t u → Does s x v → CallSame c d t x u v

  -- two tries of one line are one
  pub record TrySame (c d : Control) (t x : Try N S) (u v : Sockets) : Type 0 where
    pub same : Same c d (t.pump ++ t.call) (x.pump ++ x.call)
    pub skips : t.skips ≡ x.skips
    pub answer : t.answer ≡ x.answer
    pub socks : u ≡ v

  -- what a try is made from
  pub record Tries (cap cup : PipeId → ℕ) (c d : Control) (past : List PipeStep) (t x : Try N S) : Type 0 where
    pub one : Reached N S c
    pub other : Reached N S d
    pub states : blank c ≡ blank d
    pub walk : Walks cap c past (t.pump ++ t.call)
    pub walk_too : Walks cup d past (x.pump ++ x.call)
    pub ahead : Ahead N S cap (leaves c (t.pump ++ t.call))
    pub ahead_too : Ahead N S cup (leaves d (x.pump ++ x.call))

  pub open_same : (cap cup : PipeId → ℕ) (Does : OpenSock → Try N S → OpenSock → Type 0) → OneCall cap cup Does → (c d : Control) (past : List PipeStep) (t x : Try N S) → Tries cap cup c d past t x → (s : OpenSock) → Stands c s → Stands d s
      → (old u v : Sockets) → CallsOpen Does s old t u → CallsOpen Does s old x v → TrySame c d t x u v
  open_same cap cup Does does c d past t x from_here s stands stood old u v f g =
      let w = walks_front cap t.pump t.call c past from_here.walk in
      let w2 = walks_front cup x.pump x.call d past from_here.walk_too in
      let c1 = leaves c t.pump in
      let call_walk = walks_behind cap t.pump t.call c past from_here.walk in
      let r1 = reached_on cap t.pump c past from_here.one w in
      let d1 = leaves d x.pump in
      let q1 = reached_on cup x.pump d past from_here.other w2 in
      let ahead1 = ahead_before cap cap t.call c1 (past ++ steps_in t.pump) call_walk (subst (Ahead N S cap) (leaves_on t.pump t.call c) from_here.ahead) in
      let ahead2 = ahead_before cup cup x.call d1 (past ++ steps_in x.pump) (walks_behind cup x.pump x.call d past from_here.walk_too) (subst (Ahead N S cup) (leaves_on x.pump x.call d) from_here.ahead_too) in
      let front = all_in f.pumps.letters ++ f.pumps.last in
      let pump_walk = subst (Walks cap c past) f.pumps.acts_are w in
      let heard_at = leaves c front in
      let heard_reached = reached_on cap front c past from_here.one (walks_front cap front (map (λ step. Step step) f.pumps.steps ++ f.pumps.looks) c past pump_walk) in
      let rest = map (λ step. Step step) f.pumps.steps ++ f.pumps.looks in
      let heard_ahead = ahead_before cap cap rest heard_at (past ++ steps_in front) (walks_behind cap front rest c past pump_walk) (subst (Ahead N S cap) (ap (leaves c) f.pumps.acts_are ∙ leaves_on front rest c) ahead1) in
      let front2 = all_in g.pumps.letters ++ g.pumps.last in
      let rest2 = map (λ step. Step step) g.pumps.steps ++ g.pumps.looks in
      let pump_walk2 = subst (Walks cup d past) g.pumps.acts_are w2 in
      let heard_at2 = leaves d front2 in
      let heard_reached2 = reached_on cup front2 d past from_here.other (walks_front cup front2 rest2 d past pump_walk2) in
      let heard_ahead2 = ahead_before cup cup rest2 heard_at2 (past ++ steps_in front2) (walks_behind cup front2 rest2 d past pump_walk2) (subst (Ahead N S cup) (ap (leaves d) g.pumps.acts_are ∙ leaves_on front2 rest2 d) ahead2) in
      let heard = heard_stands cap c past s f.pumped t.pump from_here.one w stands f.pumps in
      let pump = pump_same cap cup c d past s f.pumped g.pumped t.pump x.pump from_here.one from_here.other from_here.states stands.sits stood.sits w w2 f.pumps g.pumps
      (λ states. agree_kept cap cup heard_at f.pumps.heard heard_reached heard (agree_of cap cup heard_at heard_at2 states heard_reached heard_reached2 heard_ahead heard_ahead2)) in
      let agree1 = agree_of cap cup c1 d1 pump.same.states r1 q1 ahead1 ahead2 in
      let pumped = pumped_stands cap c past s f.pumped t.pump from_here.one w stands f.pumps in
      let calls : From cap cup c1 (leaves d x.pump) (past ++ steps_in t.pump) f.pumped t x = record {
        one = r1;
        other = reached_on cup x.pump d past from_here.other w2;
        states = pump.same.states;
        walk = call_walk;
        walk_too = behind_walks cup c d past t.pump x.pump x.call pump.same from_here.walk_too;
        agree = agree_kept cap cup c1 f.pumped r1 pumped agree1;
        names = pumped.keeps.names;
        root = asked_is cap t.pump c past w (pump_has s f.pumped t.pump f.pumps) ∙ ap root_asked pump.same.states ∙ sym (asked_is cup x.pump d past w2 (pump_has s g.pumped x.pump g.pumps));
      } in
      let done = does c1 (leaves d x.pump) (past ++ steps_in t.pump) f.pumped t x calls f.called g.called f.does (subst (λ z. Does z x g.called) (sym pump.socks) g.does) in
      record {
        same = same_both c d t.pump x.pump t.call x.call pump.same done.same;
        skips = done.skips;
        answer = done.answer;
        socks = f.new_is ∙ ap (λ z. with_open z old) done.socks ∙ sym g.new_is;
      }

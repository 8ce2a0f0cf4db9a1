-- A pair of two sockets that is made, as moves.
use Rattle.std.specs.Prelude.{◌≡◌, ◌<◌, ◌+◌, ℕ, zero, suc, Bool, true, false, not, cond, List, [], ◌∷◌, All, length, filter, slice_index_or, refl}
use Rattle.std.proofs.Common.{arith, sym, ap, ◌∙◌, subst, length-set, length-append}
use Rattle.std.proofs.lemmas.List.{get_or_push, get_or-set_same}
use Rattle.zq_base.specs.Ends.{other_end}
use Rattle.zq_base.specs.declared.endpoint.Endpoint.{Endpoint}
use Rattle.zq_base.specs.declared.ids.EndId.{EndId}
use Rattle.spec_control.specs.declared.book.Waiting.{Waiting}
use Rattle.spec_control.specs.declared.letter.Letter.{Letter}
use Rattle.spec_control.specs.declared.letter.Word.TheVariants.{PipeBind}
use Rattle.spec_control.specs.Hold.{fulfil}
use Rattle.spec_control.specs.Place.{Unmade}
use Rattle.spec_control.specs.PairPhase.{Opens, may}
use Rattle.spec_control.specs.Row.{nobody}
use Rattle.spec_control.specs.Rows.{Rows, PairRow, no_pair, obj, pair, end_owner, end_half, pair_after}
use Rattle.spec_control.specs.Control.{Control, end_of, owner_of, next_pair, with_value, draws, attach, open_pair}
use Rattle.spec_control.specs.After.{Answers, joins, fulfil_all}
use Rattle.control_laws.proofs.ListLemmas.{never}
use Rattle.control_laws.proofs.RowLemmas.{pair_there}
use Rattle.control_laws.proofs.StepLemmas.{after_owner}
use Rattle.control_laws.proofs.AttachLemmas.{greets}
use Rattle.control_laws.specs.Move.{Move, LinkMoves, EndMoves, ObjectEnds, ObjectMade, PairDrawn, LetterPut, move_rows, move_boxes, Leads, is_named, MovesTo}
use Rattle.control_laws.specs.OwnMoves.{join_moves, fulfil_moves}
use Rattle.control_laws.proofs.GoLemmas.{goes_on, goes_and_free, one, greet_goes, puts_goes, opened_goes}
use Rattle.spec_control.specs.Stage.{has_ended}
use Rattle.control_laws.specs.Kept.{IsUnasked}
use Rattle.control_laws.proofs.JoinLemmas.{unasked_lives, still_unasked}
use Rattle.control_laws.proofs.SoundLemmas.{socket_there}

-- moves that follow from others leave as many pairs
head_free : (m : Move) (ms : List Move) → filter is_named (m ∷ ms) ≡ [] → (is_named m ≡ false) × (filter is_named ms ≡ [])
head_free m ms h = by m (filter is_named ms) (is_named m) h
  where
    by : (m : Move) (rest : List Move) (x : Bool) → cond x (m ∷ rest) rest ≡ [] → (x ≡ false) × (rest ≡ [])
    by m rest true e = absurd (no e)
      where
        no : {X : Type 0} {x : X} {xs : List X} → x ∷ xs ≡ [] → ⊥
        no e = Prim.grind arith
    by m rest false e = (refl, e)

pairs_stay : (ms : List Move) (s : Rows) (boxes : ℕ → List Letter) (d : Control) → filter is_named ms ≡ [] → Leads ms s boxes d → length d.rows.pairs ≡ length s.pairs
pairs_stay [] s boxes d free h = ap (λ (r : Rows). length r.pairs) h.0
pairs_stay (m ∷ ms) s boxes d free h = pairs_stay ms (move_rows m s) (move_boxes m s boxes) d (head_free m ms free).1 h.1 ∙ by m (head_free m ms free).0
  where
    by : (m : Move) → is_named m ≡ false → length (move_rows m s).pairs ≡ length s.pairs
    by (LinkMoves i event) e = refl
    by (EndMoves x event) e = length-set s.pairs x.pair.0 (pair_after event x.a (pair s x.pair.0))
    by (ObjectEnds i) e = refl
    by (ObjectMade row) e = refl
    by (PairDrawn a b) e = absurd (never (sym e))
    by (LetterPut to word) e = refl

pub free_pairs : (c d : Control) → MovesTo [] c d → length d.rows.pairs ≡ length c.rows.pairs
free_pairs c d g = pairs_stay g.moves c.rows c.boxes d g.own_are g.leads

-- a pair whose number was just drawn
abbrev drawn_row : ℕ → ℕ → PairRow
drawn_row a b = record { a_owner = a; b_owner = b; a = Unmade; b = Unmade }

pub drawn_opens : (s : Rows) (k a_owner b_owner : ℕ) (a : Bool) → pair s k ≡ record { a_owner = a_owner; b_owner = b_owner; a = Unmade; b = Unmade } → may Opens (end_half (pair s k) a) (end_half (pair s k) (not a)) ≡ true
drawn_opens s k x y a row = subst (λ (p : PairRow). may Opens (end_half p a) (end_half p (not a)) ≡ true) (sym row) (by a)
  where
    by : (a : Bool) → may Opens (end_half (record { a_owner = x; b_owner = y; a = Unmade; b = Unmade }) a) (end_half (record { a_owner = x; b_owner = y; a = Unmade; b = Unmade }) (not a)) ≡ true
    by true = refl
    by false = refl

-- whose the other end is, when the pair is made
pub opened_owner : (c : Control) (e : EndId) → e.pair.0 < length c.rows.pairs → owner_of (attach Opens e c) (other_end e) ≡ end_owner (pair c.rows e.pair.0) (not e.a)
opened_owner c e there =
    ap (λ (p : PairRow). end_owner p (not e.a)) (get_or-set_same c.rows.pairs e.pair.0 (pair_after Opens e.a (pair c.rows e.pair.0)) no_pair there) ∙ after_owner Opens e.a (not e.a) (pair c.rows e.pair.0)

drawn_owner : (x y : ℕ) (a : Bool) → end_owner (record { a_owner = x; b_owner = y; a = Unmade; b = Unmade }) a ≡ cond a x y
drawn_owner x y true = refl
drawn_owner x y false = refl

other_owner : (x y : ℕ) (a : Bool) → end_owner (record { a_owner = x; b_owner = y; a = Unmade; b = Unmade }) (not a) ≡ cond a y x
other_owner x y true = refl
other_owner x y false = refl

pub joins_goes : (c : Control) (x y : ℕ) (a : Bool) (h : Answers) → IsUnasked c.rows x → IsUnasked c.rows y → MovesTo (join_moves c (next_pair c) x y a) c (joins x y a h c)
joins_goes c x y a h x_open y_open =
    goes_and_free (join_moves c (next_pair c) x y a) c opened (joins x y a h c)
    (goes_on (PairDrawn x y ∷ []) (EndMoves (end_of (next_pair c) a) Opens ∷ LetterPut (cond a y x) (PipeBind (end_of (next_pair c) (not a)) (obj c.rows (cond a x y)).options.id) ∷ []) c drawn opened
    (one (PairDrawn x y) c drawn (socket_there c.rows x x_open.socket, socket_there c.rows y y_open.socket) refl refl)
    (goes_on (EndMoves (end_of (next_pair c) a) Opens ∷ []) (LetterPut (cond a y x) (PipeBind (end_of (next_pair c) (not a)) (obj c.rows (cond a x y)).options.id) ∷ []) drawn now opened
    (opened_goes (end_of (next_pair c) a) drawn comes unended)
    (subst (λ (i : ℕ). MovesTo (LetterPut (cond a y x) (PipeBind (end_of (next_pair c) (not a)) (obj c.rows i).options.id) ∷ []) now opened) mine
    (puts_goes (owner_of now (end_of (next_pair c) (not a))) (cond a y x) (PipeBind (end_of (next_pair c) (not a)) (obj c.rows (owner_of drawn (end_of (next_pair c) a))).options.id) now theirs (one_there a)))))
    (greet_goes (h.kind (end_of (next_pair c) a)) (end_of (next_pair c) a) opened)
  where
    drawn : Control
    drawn = draws x y c

    now : Control
    now = attach Opens (end_of (next_pair c) a) (draws x y c)

    opened : Control
    opened = open_pair (end_of (next_pair c) a) (PipeBind (end_of (next_pair c) (not a)) (obj c.rows (owner_of (draws x y c) (end_of (next_pair c) a))).options.id) (draws x y c)

    row : pair (draws x y c).rows (next_pair c) ≡ record { a_owner = x; b_owner = y; a = Unmade; b = Unmade }
    row = get_or_push c.rows.pairs (record { a_owner = x; b_owner = y; a = Unmade; b = Unmade }) no_pair (next_pair c) refl

    comes : may Opens (end_half (pair (draws x y c).rows (next_pair c)) a) (end_half (pair (draws x y c).rows (next_pair c)) (not a)) ≡ true
    comes = drawn_opens (draws x y c).rows (next_pair c) x y a row

    mine : owner_of (draws x y c) (end_of (next_pair c) a) ≡ cond a x y
    mine = ap (λ (p : PairRow). end_owner p a) row ∙ drawn_owner x y a

    theirs : owner_of (attach Opens (end_of (next_pair c) a) (draws x y c)) (end_of (next_pair c) (not a)) ≡ cond a y x
    theirs = opened_owner (draws x y c) (end_of (next_pair c) a) (pair_there (draws x y c).rows (next_pair c) a Opens comes) ∙ ap (λ (p : PairRow). end_owner p (not a)) row ∙ other_owner x y a

    one_there : (b : Bool) → cond b y x < length c.rows.objects
    one_there true = socket_there c.rows y y_open.socket
    one_there false = socket_there c.rows x x_open.socket

    unended : (z : Bool) → has_ended (obj (draws x y c).rows (end_owner (pair (draws x y c).rows (next_pair c)) z)).stage ≡ false
    unended true = ap (λ (p : PairRow). has_ended (obj c.rows p.a_owner).stage) row ∙ unasked_lives (obj c.rows x).stage x_open.unasked
    unended false = ap (λ (p : PairRow). has_ended (obj c.rows p.b_owner).stage) row ∙ unasked_lives (obj c.rows y).stage y_open.unasked

-- the objects are as they were, and there is one pair more
pub joins_objects : (c : Control) (x y : ℕ) (a : Bool) (h : Answers) → (joins x y a h c).rows.objects ≡ c.rows.objects
joins_objects c x y a h =
    (greets true (h.kind (end_of (next_pair c) a)) (end_of (next_pair c) a)
    (open_pair (end_of (next_pair c) a) (PipeBind (end_of (next_pair c) (not a)) (obj c.rows (owner_of (draws x y c) (end_of (next_pair c) a))).options.id) (draws x y c))).leaves.objects

pub joins_pairs : (c : Control) (x y : ℕ) (a : Bool) (h : Answers) → next_pair (joins x y a h c) ≡ next_pair c + 1
joins_pairs c x y a h =
    let e = end_of (next_pair c) a in
    let opened = open_pair e (PipeBind (end_of (next_pair c) (not a)) (obj c.rows (owner_of (draws x y c) e)).options.id) (draws x y c) in
    free_pairs opened (joins x y a h c) (greet_goes (h.kind e) e opened)
    ∙ length-set (draws x y c).rows.pairs (next_pair c) (pair_after Opens a (pair (draws x y c).rows (next_pair c)))
    ∙ length-append c.rows.pairs (record { a_owner = x; b_owner = y; a = Unmade; b = Unmade } ∷ [])

join_moves_same : (c d : Control) (k x y : ℕ) (a : Bool) → d.rows.objects ≡ c.rows.objects → join_moves d k x y a ≡ join_moves c k x y a
join_moves_same c d k x y a same =
    ap (λ (l : List _). PairDrawn x y ∷ EndMoves (end_of k a) Opens ∷ LetterPut (cond a y x) (PipeBind (end_of k (not a)) (slice_index_or l (cond a x y) nobody).options.id) ∷ []) same

pub fulfil_goes : (c : Control) (i : ℕ) (at : Endpoint) (h : Answers) (ws : List Waiting) (d : Control) (k : ℕ) → next_pair d ≡ k → d.rows.objects ≡ c.rows.objects → IsUnasked c.rows i → All (λ w. IsUnasked c.rows w.waiter.0) ws →
    MovesTo (fulfil_moves c i k ws) d (fulfil_all i at ws h d)
fulfil_goes c i at h [] d k number same mine all = record { moves = []; own_are = refl; leads = (refl, refl) }
fulfil_goes c i at h (w ∷ ws) d k number same mine all =
    let joined = joins w.waiter.0 i false h d in
    let next = record joined { holds = with_value w.waiter.0 (fulfil at (next_pair d) (joined.holds w.waiter.0)) joined.holds } in
    goes_on (join_moves c k w.waiter.0 i false) (fulfil_moves c i (k + 1) ws) d next (fulfil_all i at ws h next)
    (step next refl refl)
    (fulfil_goes c i at h ws next (k + 1) (joins_pairs d w.waiter.0 i false h ∙ ap (λ (n : ℕ). n + 1) number) (joins_objects d w.waiter.0 i false h ∙ same) mine (λ j x within. all (suc j) x (omega (arith, within))))
  where
    first : MovesTo (join_moves c k w.waiter.0 i false) d (joins w.waiter.0 i false h d)
    first =
        subst (λ (l : List Move). MovesTo l d (joins w.waiter.0 i false h d)) (ap (λ (n : ℕ). join_moves d n w.waiter.0 i false) number ∙ join_moves_same c d k w.waiter.0 i false same)
        (joins_goes d w.waiter.0 i false h (still_unasked c d same w.waiter.0 (all zero w (omega arith))) (still_unasked c d same i mine))

    step : (next : Control) → next.rows ≡ (joins w.waiter.0 i false h d).rows → next.boxes ≡ (joins w.waiter.0 i false h d).boxes → MovesTo (join_moves c k w.waiter.0 i false) d next
    step next rows boxes = goes_and_free (join_moves c k w.waiter.0 i false) d (joins w.waiter.0 i false h d) next first (record { moves = []; own_are = refl; leads = (rows, boxes) })

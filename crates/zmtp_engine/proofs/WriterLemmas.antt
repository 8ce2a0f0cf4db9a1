-- What a writer lends are runs of the pieces.
use Rattle.std.proofs.Common.{◌≡◌, ℕ, suc, ◌+◌, ◌<◌, ◌≤◌, List, [], ◌∷◌, ◌++◌, length, drop, Some, None, refl, sym, ap, subst, inl, inr, ◌∙◌, arith}
use Rattle.std.specs.Prelude.{◌⊎◌}
use Rattle.std.proofs.lemmas.Bool.{cases_lt, lt-ltb}
use Rattle.std.proofs.lemmas.List.{append-nil}
use Rattle.spec_zmtp.proofs.SizeLemmas.{length-head}
use Rattle.std.proofs.Common.{ltb, cond, Bool}
use Rattle.zmtp_engine.specs.declared.sending.Next.{Next}
use Rattle.zmtp_engine.specs.declared.sending.Next.TheVariants.{Head, Body, Lent}
use Rattle.zmtp_engine.specs.Output.{piece_of, pieces_of, Run, filled_run, next_run, after_run}
use Rattle.zmtp_engine.specs.WriterView.{body_at, kind_of, head_at, pieces_at, IsPlaceAt, IsOpen, IsOverAt}
use Rattle.zmtp_engine.proofs.OutputLemmas.{takes_piece, leaves_piece, next_short, next_long, next_behind, longer_run, pieces_from, no_pieces}

-- ---- pieces are taken

pub head_taken : (frames : List (List ℕ)) (frame : ℕ) (run : List ℕ) → frame < length frames → length run + length (head_at frames frame) ≤ 8192
    → filled_run run (pieces_at Head frames frame) ≡ filled_run (run ++ head_at frames frame) (pieces_at Body frames frame)
head_taken frames frame run lt le =
    ap (λ (l : List (List ℕ)). filled_run run l) (pieces_from frames frame lt) ∙ takes_piece run (head_at frames frame) (piece_of (body_at frames frame) ++ pieces_of (drop (suc frame) frames)) le

taken_by : (body run : List ℕ) (later : List (List ℕ)) → length run + length body ≤ 8192 → filled_run run (piece_of body ++ later) ≡ filled_run (run ++ body) later
taken_by [] run later le = ap (λ (l : List ℕ). filled_run l later) (sym (append-nil run))
taken_by (x ∷ body) run later le = takes_piece run (x ∷ body) later le

pub body_taken : (frames : List (List ℕ)) (frame next : ℕ) (run : List ℕ) → next ≡ frame + 1 → length run + length (body_at frames frame) ≤ 8192
    → filled_run run (pieces_at Body frames frame) ≡ filled_run (run ++ body_at frames frame) (pieces_at Head frames next)
body_taken frames frame next run is le =
    let e : suc frame ≡ next = omega (arith, is) in
    taken_by (body_at frames frame) run (pieces_of (drop (suc frame) frames)) le ∙ ap (λ (n : ℕ). filled_run (run ++ body_at frames frame) (pieces_of (drop n frames))) e

-- ---- no more is taken

left_by : (body run : List ℕ) (later : List (List ℕ)) → length run ≤ 8192 → 8192 < length run + length body → filled_run run (piece_of body ++ later) ≡ record { octets = run; later = piece_of body ++ later }
left_by [] run later le over = absurd (omega (arith, le, over))
left_by (x ∷ body) run later le over = leaves_piece run (x ∷ body) later over

all_taken : (frames : List (List ℕ)) (frame : ℕ) (run : List ℕ) → length frames ≤ frame → filled_run run (pieces_at Head frames frame) ≡ record { octets = run; later = pieces_at Head frames frame }
all_taken frames frame run le =
    let none = no_pieces frames frame le in
    ap (λ (l : List (List ℕ)). filled_run run l) none ∙ ap (λ (l : List (List ℕ)). record { octets = run; later = l }) (sym none)

pub stops_at : (next : Next) (frames : List (List ℕ)) (frame : ℕ) (run : List ℕ) → length run ≤ 8192 → IsPlaceAt next frames frame → IsOpen next → (frame ≡ length frames) ⊎ IsOverAt next frames frame (length run)
    → filled_run run (pieces_at next frames frame) ≡ record { octets = run; later = pieces_at next frames frame }
stops_at Head frames frame run le place open_ (inl e) = all_taken frames frame run (omega (arith, e))
stops_at Head frames frame run le place open_ (inr over) =
    elim (cases_lt frame (length frames)) [
      | inl lt ↦
          let from = pieces_from frames frame lt in
          ap (λ (l : List (List ℕ)). filled_run run l) from ∙ leaves_piece run (head_at frames frame) (piece_of (body_at frames frame) ++ pieces_of (drop (suc frame) frames)) over
          ∙ ap (λ (l : List (List ℕ)). record { octets = run; later = l }) (sym from)
      | inr ge ↦ all_taken frames frame run ge
    ]
stops_at Body frames frame run le place open_ (inl e) = absurd (omega (arith, e, place))
stops_at Body frames frame run le place open_ (inr over) = left_by (body_at frames frame) run (pieces_of (drop (suc frame) frames)) le over
stops_at Lent frames frame run le place open_ over = absurd open_

-- ---- pieces have octets

abbrev pub Solid : List (List ℕ) → Type 0
Solid [] = Unit {0}
Solid ([] ∷ pieces) = ⊥
Solid ((octet ∷ piece) ∷ pieces) = Solid pieces

solid_piece : (body : List ℕ) (later : List (List ℕ)) → Solid later → Solid (piece_of body ++ later)
solid_piece [] later s = s
solid_piece (x ∷ body) later s = s

solid_of : (m : List (List ℕ)) → Solid (pieces_of m)
solid_of [] = tt
solid_of (body ∷ []) = subst (λ (l : List (List ℕ)). Solid l) (append-nil (piece_of body)) (solid_piece body [] tt)
solid_of (body ∷ next ∷ more) = solid_piece body (pieces_of (next ∷ more)) (solid_of (next ∷ more))

pub solid_at : (next : Next) (frames : List (List ℕ)) (frame : ℕ) → Solid (pieces_at next frames frame)
solid_at Head frames frame = solid_of (drop frame frames)
solid_at Body frames frame = solid_piece (body_at frames frame) (pieces_of (drop (suc frame) frames)) (solid_of (drop (suc frame) frames))
solid_at Lent frames frame = solid_of (drop (suc frame) frames)

-- ---- the next run

-- a run of pieces, by what was taken of them
pub is_next : (r0 run : List ℕ) (pieces later : List (List ℕ)) → filled_run r0 pieces ≡ record { octets = run; later = later } → length r0 ≤ 8192 → 0 < length run
    → next_run (piece_of r0 ++ pieces) ≡ record { octets = run; later = later }
is_next (x ∷ r0) run pieces later e le some = next_behind (x ∷ r0) pieces (omega arith) le ∙ e
is_next [] run [] later e le some = e
is_next [] run (p ∷ pieces) later e le some =
    elim (cases_lt 8192 (length p)) [
      | inl long ↦ absurd (omega (arith, some, ap (λ (r : Run). length r.octets) (sym (leaves_piece [] p pieces (omega (arith, long))) ∙ e)))
      | inr short ↦ next_short p pieces short ∙ sym (takes_piece [] p pieces (omega (arith, short))) ∙ e
    ]

-- nothing was taken
pub none_taken : (r0 run : List ℕ) (pieces later : List (List ℕ)) → filled_run r0 pieces ≡ record { octets = run; later = later } → length run ≡ 0 → Solid pieces → (r0 ≡ []) × (pieces ≡ later)
none_taken (x ∷ r0) run pieces later e none s =
    absurd (omega (arith, longer_run (x ∷ r0) pieces, ap (λ (r : Run). length r.octets) e, none))
none_taken [] run [] later e none s = (refl, ap (λ (r : Run). r.later) e)
none_taken [] run ([] ∷ pieces) later e none s = absurd s
none_taken [] run ((x ∷ p) ∷ pieces) later e none s =
    elim (cases_lt 8192 (length (x ∷ p))) [
      | inl long ↦ (refl, ap (λ (r : Run). r.later) (sym (leaves_piece [] (x ∷ p) pieces (omega (arith, long))) ∙ e))
      | inr short ↦ absurd (omega (arith, longer_run (x ∷ p) pieces, ap (λ (r : Run). length r.octets) (sym (takes_piece [] (x ∷ p) pieces (omega (arith, short))) ∙ e), none))
    ]

lent_by : (body : List ℕ) (later : List (List ℕ)) → 8192 < length body → next_run (piece_of body ++ later) ≡ record { octets = body; later = later }
lent_by [] later lt = absurd (omega arith)
lent_by (x ∷ body) later lt = next_long (x ∷ body) later lt

pub small_head : (frames : List (List ℕ)) (frame : ℕ) → length (head_at frames frame) ≤ 9
small_head frames frame = length-head (kind_of frames frame) (ltb 255 (length (body_at frames frame))) (length (body_at frames frame))

-- a body that no run holds is lent alone
pub is_lent : (next : Next) (r0 run : List ℕ) (pieces : List (List ℕ)) (frames : List (List ℕ)) (frame : ℕ) → filled_run r0 pieces ≡ record { octets = run; later = pieces_at next frames frame } → length run ≡ 0 → Solid pieces
    → IsPlaceAt next frames frame → IsOpen next → (frame ≡ length frames → ⊥) → (frame ≡ length frames) ⊎ IsOverAt next frames frame (length run)
    → (next_run (piece_of r0 ++ pieces) ≡ record { octets = body_at frames frame; later = pieces_of (drop (suc frame) frames) }) × (8192 < length (body_at frames frame)) × (frame < length frames)
is_lent next r0 run pieces frames frame e none s place open_ more (inl over) = absurd (more over)
is_lent Head r0 run pieces frames frame e none s place open_ more (inr over) = absurd (omega (arith, over, none, small_head frames frame))
is_lent Body r0 run pieces frames frame e none s place open_ more (inr over) =
    let n = none_taken r0 run pieces (pieces_at Body frames frame) e none s in
    let long : 8192 < length (body_at frames frame) = omega (arith, over, none) in (
      ap (λ (r : List ℕ). next_run (piece_of r ++ pieces)) n.0 ∙ ap (λ (l : List (List ℕ)). next_run l) n.1 ∙ lent_by (body_at frames frame) (pieces_of (drop (suc frame) frames)) long,
      long,
      place,
    )
is_lent Lent r0 run pieces frames frame e none s place open_ more (inr over) = absurd open_

-- the message is wholly written
pub is_over : (next : Next) (r0 run : List ℕ) (pieces : List (List ℕ)) (frames : List (List ℕ)) (frame : ℕ) → filled_run r0 pieces ≡ record { octets = run; later = pieces_at next frames frame } → length run ≡ 0 → Solid pieces
    → IsPlaceAt next frames frame → IsOpen next → frame ≡ length frames → next_run (piece_of r0 ++ pieces) ≡ record { octets = []; later = [] }
is_over Head r0 run pieces frames frame e none s place open_ end_ =
    let n = none_taken r0 run pieces (pieces_at Head frames frame) e none s in
    ap (λ (r : List ℕ). next_run (piece_of r ++ pieces)) n.0 ∙ ap (λ (l : List (List ℕ)). next_run l) (n.1 ∙ no_pieces frames frame (omega (arith, end_)))
is_over Body r0 run pieces frames frame e none s place open_ end_ = absurd (omega (arith, place, end_))
is_over Lent r0 run pieces frames frame e none s place open_ end_ = absurd open_

-- ---- the message behind a run

pub after_some : (run : Run) (octets : List ℕ) (pieces later : List (List ℕ)) → run ≡ record { octets = octets; later = later } → 0 < length octets → Some later ≡ after_run run (Some pieces)
after_some run octets pieces later e some =
    sym (ap (λ (r : Run). after_run r (Some pieces)) e ∙ ap (λ (b : Bool). cond b (Some later) None) (lt-ltb 0 (length octets + length later) (omega (arith, some))))

pub after_none : (run : Run) (pieces : List (List ℕ)) → run ≡ record { octets = []; later = [] } → None ≡ after_run run (Some pieces)
after_none run pieces e = sym (ap (λ (r : Run). after_run r (Some pieces)) e)

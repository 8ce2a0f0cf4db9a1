-- Runs have the octets of the pieces, in order.
use Rattle.std.proofs.Common.{◌≡◌, ℕ, suc, ◌+◌, ◌<◌, ◌≤◌, Bool, true, false, cond, ltb, leb, List, [], ◌∷◌, ◌++◌, length, drop, Option, Some, None, refl, sym, ap, inl, inr, ◌∙◌, append_assoc, arith}
use Rattle.std.proofs.lemmas.Bool.{cases_lt, lt-ltb, le-ltb, le-leb, lt-leb, eq-eqb, ne_eqb}
use Rattle.std.proofs.lemmas.List.{append-nil, length-append, drop_all, length-drop, nil_from_length}
use Rattle.std.proofs.lemmas.List.Concat.{flat_map-append}
use Rattle.std.proofs.Math.Seq.{drop-cons}
use Rattle.spec_zmtp.specs.declared.flags.FrameKind.{FrameKind}
use Rattle.spec_zmtp.specs.declared.flags.FrameKind.TheVariants.{Last, More}
use Rattle.spec_zmtp.specs.FrameEncoding.{encode_head, encode_message}
use Rattle.zmtp_engine.specs.Output.{piece_of, pieces_of, joined, Run, filled_run, next_run, Output, pieces_in, pieces_left, octets_left, after_run, begun_at, begun_run}
use Rattle.zmtp_engine.specs.WriterView.{body_at, kind_of, head_at}

-- ---- pieces

pub joined-piece_of : (octets : List ℕ) → joined (piece_of octets) ≡ octets
joined-piece_of [] = refl
joined-piece_of (x ∷ octets) = append-nil (x ∷ octets)

joined-append : (xs ys : List (List ℕ)) → joined (xs ++ ys) ≡ joined xs ++ joined ys
joined-append xs ys = flat_map-append (λ piece. piece) xs ys

-- the pieces of a message have its octets
pub joined-pieces_of : (m : List (List ℕ)) → joined (pieces_of m) ≡ encode_message m
joined-pieces_of [] = refl
joined-pieces_of (body ∷ []) = ap (λ (l : List ℕ). encode_head Last (length body) ++ l) (joined-piece_of body)
joined-pieces_of (body ∷ next ∷ more) =
    let head : List ℕ = encode_head More (length body) in
    ap (λ (l : List ℕ). head ++ l) (joined-append (piece_of body) (pieces_of (next ∷ more)) ∙ ap (λ (l : List ℕ). l ++ joined (pieces_of (next ∷ more))) (joined-piece_of body) ∙ ap (λ (l : List ℕ). body ++ l) (joined-pieces_of (next ∷ more)))
    ∙ sym (append_assoc head body (encode_message (next ∷ more)))

-- ---- runs

-- the octets of a run and of the pieces behind it
abbrev pub all_of : Run → List ℕ
all_of run = run.octets ++ joined run.later

pub all_of-filled_run : (octets : List ℕ) (pieces : List (List ℕ)) → all_of (filled_run octets pieces) ≡ octets ++ joined pieces
all_of-filled_run octets [] = refl
all_of-filled_run octets (piece ∷ later) =
    let more : Run = filled_run (octets ++ piece) later in
    let stop : Run = record { octets = octets; later = piece ∷ later } in
    let by : (b : Bool) → all_of (cond b more stop) ≡ octets ++ joined (piece ∷ later) =
    λ b. elim b as (λ b. all_of (cond b more stop) ≡ octets ++ joined (piece ∷ later)) [ true ↦ all_of-filled_run (octets ++ piece) later ∙ append_assoc octets piece (joined later) | false ↦ refl ] in
    by (leb (length octets + length piece) 8192)

pub all_of-next_run : (pieces : List (List ℕ)) → all_of (next_run pieces) ≡ joined pieces
all_of-next_run [] = refl
all_of-next_run (piece ∷ later) =
    let alone : Run = record { octets = piece; later = later } in
    let many : Run = filled_run [] (piece ∷ later) in
    let by : (b : Bool) → all_of (cond b alone many) ≡ joined (piece ∷ later) =
    λ b. elim b as (λ b. all_of (cond b alone many) ≡ joined (piece ∷ later)) [ true ↦ refl | false ↦ all_of-filled_run [] (piece ∷ later) ] in
    by (ltb 8192 (length piece))

-- a piece that fits is taken into the run
pub takes_piece : (octets piece : List ℕ) (later : List (List ℕ)) → length octets + length piece ≤ 8192 → filled_run octets (piece ∷ later) ≡ filled_run (octets ++ piece) later
takes_piece octets piece later le =
    ap (λ (b : Bool). cond b (filled_run (octets ++ piece) later) (record { octets = octets; later = piece ∷ later })) (le-leb (length octets + length piece) 8192 le)

pub leaves_piece : (octets piece : List ℕ) (later : List (List ℕ)) → 8192 < length octets + length piece → filled_run octets (piece ∷ later) ≡ record { octets = octets; later = piece ∷ later }
leaves_piece octets piece later lt =
    ap (λ (b : Bool). cond b (filled_run (octets ++ piece) later) (record { octets = octets; later = piece ∷ later })) (lt-leb (length octets + length piece) 8192 lt)

pub next_short : (piece : List ℕ) (later : List (List ℕ)) → length piece ≤ 8192 → next_run (piece ∷ later) ≡ filled_run piece later
next_short piece later le =
    ap (λ (b : Bool). cond b (record { octets = piece; later = later }) (filled_run [] (piece ∷ later))) (le-ltb 8192 (length piece) le) ∙ takes_piece [] piece later (omega (arith, le))

pub next_long : (piece : List ℕ) (later : List (List ℕ)) → 8192 < length piece → next_run (piece ∷ later) ≡ record { octets = piece; later = later }
next_long piece later lt = ap (λ (b : Bool). cond b (record { octets = piece; later = later }) (filled_run [] (piece ∷ later))) (lt-ltb 8192 (length piece) lt)

-- a run of few octets goes on by the pieces behind them
pub next_behind : (octets : List ℕ) (pieces : List (List ℕ)) → 0 < length octets → length octets ≤ 8192 → next_run (piece_of octets ++ pieces) ≡ filled_run octets pieces
next_behind [] pieces some le = absurd (omega arith)
next_behind (x ∷ octets) pieces some le = next_short (x ∷ octets) pieces le

-- the octets of one piece alone
pub next_one : (octets : List ℕ) → (next_run (piece_of octets ++ [])).octets ≡ octets
next_one [] = refl
next_one (x ∷ octets) =
    elim (cases_lt 8192 (length (x ∷ octets))) [
      | inl lt ↦ ap (λ (r : Run). r.octets) (next_long (x ∷ octets) [] lt)
      | inr le ↦ ap (λ (r : Run). r.octets) (next_short (x ∷ octets) [] le)
    ]

-- a run that begins with octets has no fewer
pub longer_run : (octets : List ℕ) (pieces : List (List ℕ)) → length octets ≤ length (filled_run octets pieces).octets
longer_run octets [] = omega arith
longer_run octets (piece ∷ later) =
    let more : Run = filled_run (octets ++ piece) later in
    let stop : Run = record { octets = octets; later = piece ∷ later } in
    let by : (b : Bool) → length octets ≤ length (cond b more stop).octets =
    λ b. elim b as (λ b. length octets ≤ length (cond b more stop).octets) [ true ↦ omega (arith, length-append octets piece, longer_run (octets ++ piece) later) | false ↦ omega arith ] in
    by (leb (length octets + length piece) 8192)

-- ---- a run that is begun

none_left : (said : List ℕ) (n : ℕ) → n ≡ length said → drop n said ≡ []
none_left said n e = drop_all n said (omega (arith, e))

no_sum : (a b : List ℕ) (pieces : List (List ℕ)) → length a + length pieces ≤ 0 → a ++ joined pieces ≡ []
no_sum [] b [] e = refl
no_sum [] b (p ∷ pieces) e = absurd (omega (arith, e))
no_sum (x ∷ a) b pieces e = absurd (omega (arith, e))

begun_later : (r0 : List ℕ) (later : Option (List (List ℕ))) →
    (next_run (piece_of r0 ++ pieces_in later)).octets ++ joined (pieces_in (after_run (next_run (piece_of r0 ++ pieces_in later)) later)) ≡ r0 ++ joined (pieces_in later)
begun_later r0 None = ap (λ (l : List ℕ). l ++ []) (next_one r0)
begun_later r0 (Some pieces) =
    let run : Run = next_run (piece_of r0 ++ pieces) in
    let whole : all_of run ≡ r0 ++ joined pieces = all_of-next_run (piece_of r0 ++ pieces) ∙ joined-append (piece_of r0) pieces ∙ ap (λ (l : List ℕ). l ++ joined pieces) (joined-piece_of r0) in
    elim (cases_lt 0 (length run.octets + length run.later)) [
      | inl some ↦ ap (λ (b : Bool). run.octets ++ joined (pieces_in (cond b (Some run.later) None))) (lt-ltb 0 (length run.octets + length run.later) some) ∙ whole
      | inr none ↦
          let nothing : all_of run ≡ [] = no_sum run.octets [] run.later none in
          let empty : run.octets ≡ [] = nil_from_length run.octets (omega (arith, none)) in
          ap (λ (b : Bool). run.octets ++ joined (pieces_in (cond b (Some run.later) None))) (le-ltb 0 (length run.octets + length run.later) none) ∙ append-nil run.octets ∙ empty ∙ sym nothing ∙ whole
    ]

begun_octets_at : (run said : List ℕ) (o : Output) → o.run ≡ run → (begun_at run said o).run ++ octets_left said (begun_at run said o) ≡ o.run ++ octets_left said o
begun_octets_at [] said o e =
    let r0 : List ℕ = drop o.begun said in
    let next : Run = next_run (piece_of r0 ++ pieces_in o.later) in
    ap (λ (l : List ℕ). next.octets ++ (l ++ joined (pieces_in (after_run next o.later)))) (none_left said (length said) refl) ∙ begun_later r0 o.later ∙ ap (λ (l : List ℕ). l ++ octets_left said o) (sym e)
begun_octets_at (x ∷ run) said o e = refl

-- no octet is lost or added
pub begun_octets : (said : List ℕ) (o : Output) → (begun_run said o).run ++ octets_left said (begun_run said o) ≡ o.run ++ octets_left said o
begun_octets said o = begun_octets_at o.run said o refl

begun_within_at : (run said : List ℕ) (o : Output) → o.begun ≤ length said → (begun_at run said o).begun ≤ length said
begun_within_at [] said o le = omega arith
begun_within_at (x ∷ run) said o le = le

pub begun_within : (said : List ℕ) (o : Output) → o.begun ≤ length said → (begun_run said o).begun ≤ length said
begun_within said o le = begun_within_at o.run said o le

begun_idle_at : (run said : List ℕ) (o : Output) → o.later ≡ None → (begun_at run said o).later ≡ None
begun_idle_at [] said o none = ap (λ (l : Option (List (List ℕ))). after_run (next_run (pieces_left said o)) l) none
begun_idle_at (x ∷ run) said o none = none

pub begun_idle : (said : List ℕ) (o : Output) → o.later ≡ None → (begun_run said o).later ≡ None
begun_idle said o none = begun_idle_at o.run said o none

-- ---- the pieces of a message, frame by frame

by_first : (body : List ℕ) (more : List (List ℕ)) (k : FrameKind) → (more ≡ [] → k ≡ Last) → ((more ≡ [] → ⊥) → k ≡ More) → pieces_of (body ∷ more) ≡ encode_head k (length body) ∷ (piece_of body ++ pieces_of more)
by_first body [] k last many = ap (λ (j : FrameKind). encode_head j (length body) ∷ piece_of body) (sym (last refl)) ∙ ap (λ (l : List (List ℕ)). encode_head k (length body) ∷ l) (sym (append-nil (piece_of body)))
by_first body (next ∷ more) k last many = ap (λ (j : FrameKind). encode_head j (length body) ∷ (piece_of body ++ pieces_of (next ∷ more))) (sym (many (λ e. absurd cc)))

last_kind : (frames : List (List ℕ)) (i : ℕ) → i < length frames → drop (suc i) frames ≡ [] → kind_of frames i ≡ Last
last_kind frames i lt e =
    let n : i + 1 ≡ length frames = omega (arith, ap (λ (l : List (List ℕ)). length l) e, length-drop (suc i) frames) in
    ap (λ (b : Bool). cond b Last More) (eq-eqb (i + 1) (length frames) n)

more_kind : (frames : List (List ℕ)) (i : ℕ) → i < length frames → (drop (suc i) frames ≡ [] → ⊥) → kind_of frames i ≡ More
more_kind frames i lt some =
    let n : i + 1 ≡ length frames → ⊥ = λ e. some (drop_all (suc i) frames (omega arith)) in
    ap (λ (b : Bool). cond b Last More) (ne_eqb (i + 1) (length frames) n)

pub pieces_from : (frames : List (List ℕ)) (i : ℕ) → i < length frames → pieces_of (drop i frames) ≡ head_at frames i ∷ (piece_of (body_at frames i) ++ pieces_of (drop (suc i) frames))
pieces_from frames i lt =
    ap pieces_of (drop-cons frames i [] lt) ∙ by_first (body_at frames i) (drop (suc i) frames) (kind_of frames i) (last_kind frames i lt) (more_kind frames i lt)

pub no_pieces : (frames : List (List ℕ)) (i : ℕ) → length frames ≤ i → pieces_of (drop i frames) ≡ []
no_pieces frames i le = ap pieces_of (drop_all i frames le)

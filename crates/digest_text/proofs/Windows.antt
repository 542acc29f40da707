-- What is unread in a buffer, and what is left of a source.
use Rattle.std.proofs.Common.{◌≡◌, ◌≢◌, ℕ, ◌+◌, ◌-◌, ◌<◌, ◌≤◌, List, [], ◌++◌, length, take, drop, Option, Some, None, refl, sym, ap, ◌∙◌, arith, append_assoc, length-append, length-drop, inl, inr}
use Rattle.std.specs.Prelude.{IfSome}
use Rattle.std.specs.List.{position_or_len}
use Rattle.std.specs.Option.{option_map}
use Rattle.std.specs.Io.KnownBytes.{Consumes, IsAtEnd, Keeps}
use Rattle.std.proofs.lemmas.List.{append-nil, drop-append-le, drop_all, drop-drop, drop-take, length-take-le, take-append-le}
use Rattle.std.proofs.Math.Seq.{take-append-add, take-append_seam}
use borrow.Rule.Slice.PartMut.{put_mid}
use Rattle.digest_text.specs.Rows.{is_feed}
use Rattle.digest_text.specs.Left.{IsBroken}
use Rattle.digest_text.proofs.Sought.{position_behind}

-- some bytes of a window are taken
pub taken : (items : List ℕ) (from end n : ℕ) → n ≤ end - from → take (end - (from + n)) (drop (from + n) items) ≡ drop n (take (end - from) (drop from items))
taken items from end n few =
    let rest : end - from ≡ n + (end - (from + n)) = omega arith in
    let at : drop (from + n) items ≡ drop n (drop from items) = sym (drop-drop n from items) in
    rw (rest, at) (sym (drop-take n (end - (from + n)) (drop from items)))

-- a window of a list, once other bytes stand behind it
pub window : (items more : List ℕ) (from end n : ℕ) → from ≤ end → end ≤ length items
    → take (end + n - from) (drop from (take end items ++ more)) ≡ take (end - from) (drop from items) ++ take n more
window items more from end n order within =
    let own = take (end - from) (drop from items) in
    let front : drop from (take end items) ≡ own =
    let whole : end ≡ from + (end - from) = omega arith in
    ap (λ (k : ℕ). drop from (take k items)) whole ∙ drop-take from (end - from) items in
    let long : length own ≡ end - from = length-take-le (end - from) (drop from items) (omega (arith, length-drop from items)) in
    let whole : end + n - from ≡ length own + n = omega (arith, long) in
    let apart : drop from (take end items ++ more) ≡ own ++ more = drop-append-le from (take end items) more (omega (arith, length-take-le end items within)) ∙ ap (λ (xs : List ℕ). xs ++ more) front in
    rw (whole, apart) (take-append-add own more n)

-- bytes that a source gave stand behind those that were unread
pub consumed : (old new : Option (List ℕ)) (unread bytes after : List ℕ) → Consumes old new bytes → after ≡ unread ++ bytes
    → Keeps (option_map (λ rest. unread ++ rest) old) (option_map (λ rest. after ++ rest) new)
consumed None new unread bytes after h e = tt
consumed (Some xs) None unread bytes after h e = h
consumed (Some xs) (Some ys) unread bytes after h e = rw (e, h) (append_assoc unread bytes ys)

pub kept : (old new : Option (List ℕ)) (unread after : List ℕ) → Keeps old new → after ≡ unread
    → Keeps (option_map (λ rest. unread ++ rest) old) (option_map (λ rest. after ++ rest) new)
kept None new unread after h e = tt
kept (Some xs) None unread after h e = h
kept (Some xs) (Some ys) unread after h e = rw (e, h) refl

-- a buffer after a write from `end` on
abbrev pub refilled : ℕ → ℕ → List ℕ → List ℕ → List ℕ → List ℕ
refilled len end own items buf =
    let all = put_mid end (length items - end) items buf in
    take len (all ++ drop (length all) own)

refill : (len end : ℕ) (own items buf : List ℕ) → items ≡ own → length own ≡ len → end ≤ len → length buf ≡ length items - end
    → refilled len end own items buf ≡ take end own ++ (buf ++ [])
refill len end own items buf same long within fits =
    let none : drop (length own - end) (drop end own) ≡ [] = drop_all (length own - end) (drop end own) (omega (arith, length-drop end own)) in
    let size : length buf ≡ length own - end = fits ∙ ap (λ (xs : List ℕ). length xs - end) same in
    let all = take end own ++ (buf ++ []) in
    let whole : length all ≡ len = omega (arith, length-append (take end own) (buf ++ []), length-append buf [], length-take-le end own (omega (arith, long)), size, long) in
    rw (same, none) (rw (← whole) (take-append_seam all (drop (length all) own)))

-- the same window with nothing more
pub same_window : (len from end n : ℕ) (own items buf : List ℕ) → items ≡ own → length own ≡ len → from ≤ end → end ≤ len → length buf ≡ length items - end → n ≡ 0
    → take (end + n - from) (drop from (refilled len end own items buf)) ≡ take (end - from) (drop from own)
same_window len from end n own items buf same long order within fits none =
    let at = window own (buf ++ []) from end n order (omega (arith, long)) in
    rw (refill len end own items buf same long within fits) (at ∙ ap (λ (k : ℕ). take (end - from) (drop from own) ++ take k (buf ++ [])) none ∙ append-nil (take (end - from) (drop from own)))

-- a read failed
pub unfilled : (old new : Option (List ℕ)) (len from end : ℕ) (own items buf : List ℕ) → items ≡ own → length own ≡ len → from ≤ end → end ≤ len → length buf ≡ length items - end → Keeps old new
    → Keeps (option_map (λ rest. take (end - from) (drop from own) ++ rest) old) (option_map (λ rest. take (end - from) (drop from (refilled len end own items buf)) ++ rest) new)
unfilled old new len from end own items buf same long order within fits h =
    let zero : end + 0 - from ≡ end - from = omega arith in
    let after : take (end - from) (drop from (refilled len end own items buf)) ≡ take (end - from) (drop from own) =
    ap (λ (k : ℕ). take k (drop from (refilled len end own items buf))) (sym zero) ∙ same_window len from end 0 own items buf same long order within fits refl in
    kept old new (take (end - from) (drop from own)) (take (end - from) (drop from (refilled len end own items buf))) h after

-- a read gave n bytes
pub filled : (old new : Option (List ℕ)) (len from end n : ℕ) (own items buf : List ℕ) → items ≡ own → length own ≡ len → from ≤ end → end ≤ len → length buf ≡ length items - end → n ≤ length buf
    → Consumes old new (take n buf)
    → Keeps (option_map (λ rest. take (end - from) (drop from own) ++ rest) old) (option_map (λ rest. take (end + n - from) (drop from (refilled len end own items buf)) ++ rest) new)
filled old new len from end n own items buf same long order within fits few h =
    let unread = take (end - from) (drop from own) in
    let after : take (end + n - from) (drop from (refilled len end own items buf)) ≡ unread ++ take n buf =
    rw (refill len end own items buf same long within fits) (window own (buf ++ []) from end n order (omega (arith, long)) ∙ ap (λ (xs : List ℕ). unread ++ xs) (take-append-le n buf [] few)) in
    consumed old new unread (take n buf) (take (end + n - from) (drop from (refilled len end own items buf))) h after

pub keeps_on : (a b c : Option (List ℕ)) → Keeps a b → Keeps b c → Keeps a c
keeps_on None b c ab bc = tt
keeps_on (Some xs) None c ab bc = absurd ab
keeps_on (Some xs) (Some ys) None ab bc = bc
keeps_on (Some xs) (Some ys) (Some zs) ab bc = bc ∙ ab

pub keeps_all : (a : Option (List ℕ)) → Keeps a a
keeps_all None = tt
keeps_all (Some xs) = refl

-- nothing is left of a source but what is unread
pub all_read : (new : Option (List ℕ)) (unread : List ℕ) → IsAtEnd new → IfSome (option_map (λ rest. unread ++ rest) new) (λ bytes. bytes ≡ unread)
all_read None unread h = tt
all_read (Some xs) unread h = rw h (append-nil unread)

-- a line that is cut off
pub cut_short : (left : Option (List ℕ)) (unread : List ℕ) → IfSome left (λ bytes. bytes ≡ unread) → position_or_len is_feed unread ≡ length unread → 1 ≤ length unread
    → IfSome left (λ bytes. (bytes ≢ []) × IsBroken bytes)
cut_short None unread h none some = tt
cut_short (Some bytes) unread h none some = rw h (λ e. absurd (let empty = ap length e in omega (arith, empty)), inl none)

-- a line that is too long
pub too_long : (rest : Option (List ℕ)) (unread : List ℕ) → position_or_len is_feed unread ≡ length unread → 256 < length unread
    → IfSome (option_map (λ more. unread ++ more) rest) (λ bytes. (bytes ≢ []) × IsBroken bytes)
too_long None unread none long = tt
too_long (Some more) unread none long =
    (λ e. absurd (let empty = ap length e in omega (arith, empty, length-append unread more)), inr (let at = position_behind is_feed unread more none in omega (arith, at)))

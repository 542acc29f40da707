-- What each change of a block makes of the pages.
use Rattle.std.proofs.Common.{◌≡◌, ℕ, ◌+◌, ◌*◌, ◌/◌, ◌%◌, ◌<◌, ◌≤◌, List, [], ◌∷◌, ◌++◌, length, Option, None, Some, is_some, IsSome, get_or, set, refl, sym, ap, ◌∙◌, subst, ◌⊎◌, inl, inr, zero-add, arith, length-append}
use Rattle.std.specs.Prelude.{slice_index, slice_index_or, option_map, IsSomeAnd}
use Rattle.std.proofs.Math.Nat.{div-add-mod, mod-lt}
use Rattle.std.proofs.lemmas.Bool.{cases_lt, cases_eq, false≢true}
use Rattle.std.proofs.lemmas.List.{get_or-set_same, get_or-set_other, length-set, get_or_append_left, get_or_default}
use Rattle.std.proofs.lemmas.List.FromFn.{length-map-range_with_len, get_or-map-range_with_len}
use Rattle.std.proofs.Math.Seq.{get_or-append_seam}
use Rattle.slab.specs.Slab.{Slab, get, ContainsKey, with_value, Updates}
use Rattle.slab.proofs.SlabLemmas.{Updates-with_value}
use Rattle.page_model.specs.declared.limits.TheConstants.{MAX_FRAMES}
use Rattle.machine_frames.specs.PageLists.{PageList, page_in, with_page, with_more}
use Rattle.machine_frames.specs.InBlocks.{HasPage, HasRoom, changed, block_of, pages_of, room_of, page_of, pages_in, Holds, AreBlocks}
use Rattle.machine_frames.proofs.Lists.{map_changed, map_longer}

abbrev ByNumber : Type 0
ByNumber = ℕ → Option PageList

-- a number of a page, by its block and its place there
split : (n : ℕ) → 512 * (n / 512) + n % 512 ≡ n
split n = div-add-mod n 512

in_block : (n : ℕ) → n % 512 < 512
in_block n = mod-lt n {m = 512} (omega arith)

pub within_keys : (n capacity count : ℕ) → n < capacity → capacity ≤ 512 * count → n / 512 < count
within_keys n capacity count h enough = omega (arith, h, enough, split n, in_block n)

apart_places : (i n : ℕ) → (i ≡ n → ⊥) → i / 512 ≡ n / 512 → i % 512 ≡ n % 512 → ⊥
apart_places i n differ b j = differ (omega (arith, split i, split n, b, j))

pub length-pages_in : (block : ByNumber) (len : ℕ) → length (pages_in block len) ≡ len
unfolding pages_in
length-pages_in block len = length-map-range_with_len (page_of block) 0 len

pub page-pages_in : (block : ByNumber) (len n : ℕ) → n < len → slice_index_or (pages_in block len) n [] ≡ page_of block n
unfolding pages_in
page-pages_in block len n h = get_or-map-range_with_len (page_of block) 0 len n n [] h (zero-add n)

-- the block behind the last page, which has room
module _ (block : ByNumber) (count len capacity n : ℕ) (holds : Holds block count len capacity) (enough : capacity ≤ 512 * count) (at_end : n ≡ len) (h : len < capacity) (old : PageList) (was : block (n / 512) ≡ Some old) where
  inside : n / 512 < count
  inside = within_keys n capacity count (omega (arith, h, at_end)) enough

  old_length : length (pages_of (block (n / 512))) ≡ length old.pages
  old_length = ap (λ (o : Option PageList). length (pages_of o)) was

  -- it has as many pages as stand before the new one
  filled_to : length old.pages ≡ n % 512
  filled_to = pick (cases_lt (n % 512) (length old.pages)) (cases_lt (length old.pages) (n % 512)) where
    pick : ((n % 512 < length old.pages) ⊎ (length old.pages ≤ n % 512)) → ((length old.pages < n % 512) ⊎ (n % 512 ≤ length old.pages)) → length old.pages ≡ n % 512
    pick (inl more) y = absurd (omega (arith, holds.no_more (n / 512) (n % 512) inside (omega (arith, more, old_length)), split n, at_end))
    pick (inr x) (inl less) = absurd (omega (arith, old_length, holds.stored (n / 512) (length old.pages) inside (omega (arith, less, in_block n)) (omega (arith, split n, at_end, less))))
    pick (inr x) (inr y) = omega arith

  room_left : length old.pages < old.room
  room_left = omega (arith, filled_to, holds.room (n / 512) (n % 512) inside (in_block n) (omega (arith, split n, at_end, h)), ap (λ (o : Option PageList). room_of o) was)

module _ (block block' : ByNumber) (count len capacity n : ℕ) (holds : Holds block count len capacity) (enough : capacity ≤ 512 * count) (others : (b : ℕ) → b < count → (b ≡ n / 512 → ⊥) → block' b ≡ block b) where
  -- one page is replaced
  module _ (h : n < len) (old : PageList) (was : block (n / 512) ≡ Some old) (page : List ℕ) (is : block' (n / 512) ≡ Some (with_page old (n % 512) page)) where
    within : n / 512 < count
    within = within_keys n capacity count (omega (arith, h, holds.few)) enough

    as_long : (b : ℕ) → b < count → ((b ≡ n / 512) ⊎ (b ≡ n / 512 → ⊥)) → length (pages_of (block' b)) ≡ length (pages_of (block b))
    as_long b x (inl e) = rw (e, is, was) (length-set old.pages (n % 512) page)
    as_long b x (inr differs) = ap (λ (o : Option PageList). length (pages_of o)) (others b x differs)

    as_roomy : (b : ℕ) → b < count → ((b ≡ n / 512) ⊎ (b ≡ n / 512 → ⊥)) → room_of (block' b) ≡ room_of (block b)
    as_roomy b x (inl e) = rw (e, is, was) refl
    as_roomy b x (inr differs) = ap (λ (o : Option PageList). room_of o) (others b x differs)

    pub still_holds : Holds block' count len capacity
    still_holds = record {
      few = holds.few;
      stored = λ b j x y z. omega (arith, as_long b x (cases_eq b (n / 512)), holds.stored b j x y z);
      no_more = λ b j x y. holds.no_more b j x (omega (arith, as_long b x (cases_eq b (n / 512)), y));
      room = λ b j x y z. omega (arith, as_roomy b x (cases_eq b (n / 512)), holds.room b j x y z);
    }

    there : n % 512 < length old.pages
    there = omega (arith, holds.stored (n / 512) (n % 512) within (in_block n) (omega (arith, split n, h)), ap (λ (o : Option PageList). length (pages_of o)) was)

    page_there : page_of block' n ≡ page
    page_there = ap (λ (o : Option PageList). slice_index_or (pages_of o) (n % 512) []) is ∙ get_or-set_same old.pages (n % 512) page [] there

    other_pages : (i : ℕ) → i < len → (i ≡ n → ⊥) → ((i / 512 ≡ n / 512) ⊎ (i / 512 ≡ n / 512 → ⊥)) → page_of block' i ≡ page_of block i
    other_pages i x differs (inl e) = rw (e, is, was) (get_or-set_other old.pages (n % 512) (i % 512) page [] (λ same. apart_places i n differs e same))
    other_pages i x differs (inr apart) = ap (λ (o : Option PageList). slice_index_or (pages_of o) (i % 512) []) (others (i / 512) (within_keys i capacity count (omega (arith, x, holds.few)) enough) apart)

    pub pages_replaced : pages_in block' len ≡ set (pages_in block len) n page
    unfolding pages_in
    pages_replaced = map_changed [] (page_of block) (page_of block') len n page h page_there (λ i x differs. other_pages i x differs (cases_eq (i / 512) (n / 512)))

  -- one more page is put behind all others
  module _ (at_end : n ≡ len) (h : len < capacity) (old : PageList) (was : block (n / 512) ≡ Some old) (page : List ℕ) (is : block' (n / 512) ≡ Some (with_more old page)) where
    before : length old.pages ≡ n % 512
    before = filled_to block count len capacity n holds enough at_end h old was

    new_length : length (pages_of (block' (n / 512))) ≡ n % 512 + 1
    new_length = ap (λ (o : Option PageList). length (pages_of o)) is ∙ omega (arith, length-append old.pages (page ∷ []), before)

    others_long : (b : ℕ) → b < count → (b ≡ n / 512 → ⊥) → length (pages_of (block' b)) ≡ length (pages_of (block b))
    others_long b x differs = ap (λ (o : Option PageList). length (pages_of o)) (others b x differs)

    stored' : (b j : ℕ) → b < count → j < 512 → 512 * b + j < len + 1 → ((b ≡ n / 512) ⊎ (b ≡ n / 512 → ⊥)) → j < length (pages_of (block' b))
    stored' b j x y z (inl e) = rw e (omega (arith, new_length, split n, at_end, y, z, e))
    stored' b j x y z (inr differs) = omega (arith, others_long b x differs, holds.stored b j x y (omega (arith, split n, in_block n, at_end, y, z, differs)))

    no_more' : (b j : ℕ) → b < count → j < length (pages_of (block' b)) → ((b ≡ n / 512) ⊎ (b ≡ n / 512 → ⊥)) → 512 * b + j < len + 1
    no_more' b j x y (inl e) = let long : length (pages_of (block' b)) ≡ n % 512 + 1 = ap (λ (i : ℕ). length (pages_of (block' i))) e ∙ new_length in omega (arith, long, split n, at_end, y, e)
    no_more' b j x y (inr differs) = omega (arith, holds.no_more b j x (omega (arith, others_long b x differs, y)))

    room' : (b : ℕ) → b < count → ((b ≡ n / 512) ⊎ (b ≡ n / 512 → ⊥)) → room_of (block' b) ≡ room_of (block b)
    room' b x (inl e) = rw (e, is, was) refl
    room' b x (inr differs) = ap (λ (o : Option PageList). room_of o) (others b x differs)

    pub holds_more : Holds block' count (len + 1) capacity
    holds_more = record {
      few = omega (arith, h);
      stored = λ b j x y z. stored' b j x y z (cases_eq b (n / 512));
      no_more = λ b j x y. no_more' b j x y (cases_eq b (n / 512));
      room = λ b j x y z. omega (arith, room' b x (cases_eq b (n / 512)), holds.room b j x y z);
    }

    last_page : page_of block' len ≡ page
    last_page = ap (page_of block') (sym at_end) ∙ ap (λ (o : Option PageList). slice_index_or (pages_of o) (n % 512) []) is ∙ ap (λ (j : ℕ). get_or (old.pages ++ page ∷ []) j []) (sym before) ∙ get_or-append_seam old.pages page [] []

    earlier : (i : ℕ) → i < len → ((i / 512 ≡ n / 512) ⊎ (i / 512 ≡ n / 512 → ⊥)) → page_of block' i ≡ page_of block i
    earlier i x (inl e) = rw (e, is, was) (get_or_append_left old.pages (page ∷ []) [] (i % 512) (omega (arith, before, split i, split n, e, x, at_end)))
    earlier i x (inr apart) = ap (λ (o : Option PageList). slice_index_or (pages_of o) (i % 512) []) (others (i / 512) (within_keys i capacity count (omega (arith, x, holds.few)) enough) apart)

    pub pages_more : pages_in block' (len + 1) ≡ pages_in block len ++ page ∷ []
    unfolding pages_in
    pages_more = map_longer [] (page_of block) (page_of block') len page last_page (λ i x. earlier i x (cases_eq (i / 512) (n / 512)))

-- a block that stands
some_block : (slot : Option PageList) → IsSome slot → (block : PageList) × (slot ≡ Some block)
some_block None h = absurd (false≢true h)
some_block (Some block) h = (block, refl)

-- the pages after a change of one block
pub record After (keys : List ℕ) (blocks : Slab PageList) (len capacity : ℕ) (pages : List (List ℕ)) : Type 0 where
  pub is : pages_in (block_of keys blocks) len ≡ pages
  pub sound : AreBlocks keys blocks len capacity

module _ (keys : List ℕ) (blocks : Slab PageList) (len capacity n key : ℕ) (sound : AreBlocks keys blocks len capacity) (enough : capacity ≤ 512 * length keys) (h : n < capacity) (read : key ≡ get_or keys (n / 512) key) where
  known_key : key ≡ slice_index keys (n / 512)
  known_key = read ∙ get_or_default keys (n / 512) key 0 (within_keys n capacity (length keys) h enough)

  stands : ContainsKey blocks key
  stands = ap (λ (k : ℕ). is_some (get blocks k)) known_key ∙ sound.filled (n / 512) (within_keys n capacity (length keys) h enough)

  the_block : (block : PageList) × (get blocks key ≡ Some block)
  the_block = some_block (get blocks key) stands

  at_number : block_of keys blocks (n / 512) ≡ Some the_block.0
  at_number = ap (get blocks) (sym known_key) ∙ the_block.1

  pub has_page : n < len → HasPage blocks key (n % 512)
  has_page below =
      let lies : n % 512 < length the_block.0.pages = omega (arith, sound.holds.stored (n / 512) (n % 512) (within_keys n capacity (length keys) h enough) (in_block n) (omega (arith, split n, below)), ap (λ (o : Option PageList). length (pages_of o)) at_number) in
      let P : Option PageList → Type 0 = λ o. IsSomeAnd o (λ block. n % 512 < length block.pages) in
      subst P (sym the_block.1) lies

  pub found : n < len → (page : List ℕ) → Some page ≡ option_map (λ block. page_in block (n % 512)) (get blocks key) → slice_index_or (pages_in (block_of keys blocks) len) n [] ≡ page
  found below page e = page-pages_in (block_of keys blocks) len n below ∙ ap (λ (o : Option PageList). slice_index_or (pages_of o) (n % 512) []) at_number ∙ sym (ap (λ (o : Option (List ℕ)). get_or_else o) (e ∙ ap (option_map (λ block. page_in block (n % 512))) the_block.1)) where
    get_or_else : Option (List ℕ) → List ℕ
    get_or_else None = []
    get_or_else (Some x) = x

  -- the slab after a change of the block
  module _ (change : PageList → PageList) (blocks' : Slab PageList) (e : blocks' ≡ changed change blocks key) where
    now_is : blocks' ≡ with_value blocks key (change the_block.0)
    now_is = e ∙ ap (λ (o : Option PageList). record { slots = set blocks.slots key (option_map change o); vacant_key = blocks.vacant_key; capacity = blocks.capacity }) the_block.1

    updates : Updates blocks blocks' key (Some (change the_block.0))
    updates = rw now_is (Updates-with_value blocks key (change the_block.0) stands)

    new_block : block_of keys blocks' (n / 512) ≡ Some (change the_block.0)
    new_block = ap (get blocks') (sym known_key) ∙ updates.changed

    other_blocks : (b : ℕ) → b < length keys → (b ≡ n / 512 → ⊥) → block_of keys blocks' b ≡ block_of keys blocks b
    other_blocks b x differs = updates.others (slice_index keys b) (λ same. differs (sound.apart b (n / 512) x (within_keys n capacity (length keys) h enough) (same ∙ known_key)))

    all_filled : (b : ℕ) → b < length keys → ContainsKey blocks' (slice_index keys b)
    all_filled b x = pick (cases_eq b (n / 512)) where
      pick : ((b ≡ n / 512) ⊎ (b ≡ n / 512 → ⊥)) → ContainsKey blocks' (slice_index keys b)
      pick (inl same) = ap is_some (ap (block_of keys blocks') same ∙ new_block)
      pick (inr differs) = ap is_some (other_blocks b x differs) ∙ sound.filled b x

    keeps : (len' : ℕ) → Holds (block_of keys blocks') (length keys) len' capacity → AreBlocks keys blocks' len' capacity
    keeps len' holds = record { most = sound.most; filled = all_filled; apart = sound.apart; holds = holds }

  pub rewritten : n < len → (change : List ℕ → List ℕ) (blocks' : Slab PageList)
      → blocks' ≡ changed (λ block. with_page block (n % 512) (change (page_in block (n % 512)))) blocks key
      → After keys blocks' len capacity
      (set (pages_in (block_of keys blocks) len) n (change (slice_index_or (pages_in (block_of keys blocks) len) n [])))
  rewritten below change blocks' e =
      let f : PageList → PageList = λ block. with_page block (n % 512) (change (page_in block (n % 512))) in
      let page = change (page_in the_block.0 (n % 512)) in
      let was : slice_index_or (pages_in (block_of keys blocks) len) n [] ≡ page_in the_block.0 (n % 512) = page-pages_in (block_of keys blocks) len n below ∙ ap (λ (o : Option PageList). slice_index_or (pages_of o) (n % 512) []) at_number in
      record {
        is = pages_replaced (block_of keys blocks) (block_of keys blocks') (length keys) len capacity n sound.holds enough (other_blocks f blocks' e) below the_block.0 at_number page (new_block f blocks' e) ∙ ap (λ (x : List ℕ). set (pages_in (block_of keys blocks) len) n (change x)) (sym was);
        sound = keeps f blocks' e len (still_holds (block_of keys blocks) (block_of keys blocks') (length keys) len capacity n sound.holds enough (other_blocks f blocks' e) below the_block.0 at_number page (new_block f blocks' e));
      }

  pub has_room : n ≡ len → HasRoom blocks key
  has_room at_end =
      let P : Option PageList → Type 0 = λ o. IsSomeAnd o (λ block. length block.pages < block.room) in
      subst P (sym the_block.1) (fits at_end) where
        fits : n ≡ len → length the_block.0.pages < the_block.0.room
        fits at_end = room_left (block_of keys blocks) (length keys) len capacity n sound.holds enough at_end (omega (arith, h, at_end)) the_block.0 at_number

  pub pushed : n ≡ len → (page : List ℕ) (blocks' : Slab PageList) → blocks' ≡ changed (λ block. with_more block page) blocks key → After keys blocks' (len + 1) capacity (pages_in (block_of keys blocks) len ++ page ∷ [])
  pushed at_end page blocks' e =
      let f : PageList → PageList = λ block. with_more block page in
      record {
        is = pages_more (block_of keys blocks) (block_of keys blocks') (length keys) len capacity n sound.holds enough (other_blocks f blocks' e) at_end (omega (arith, h, at_end)) the_block.0 at_number page (new_block f blocks' e);
        sound = keeps f blocks' e (len + 1) (holds_more (block_of keys blocks) (block_of keys blocks') (length keys) len capacity n sound.holds enough (other_blocks f blocks' e) at_end (omega (arith, h, at_end)) the_block.0 at_number page (new_block f blocks' e));
      }

-- a number of a page of the shown list
pub number_below : (block : ByNumber) (len n : ℕ) (list : PageList) → pages_in block len ≡ list.pages → n < length list.pages → n < len
number_below block len n list is h = omega (arith, h, ap (λ (pages : List (List ℕ)). length pages) is, length-pages_in block len)

-- a list of pages in some room
abbrev pub listed : ℕ → List (List ℕ) → PageList
listed room pages = record { pages = pages; room = room }

-- one more block, with no page
module _ (keys : List ℕ) (blocks : Slab PageList) (capacity key : ℕ) (block : PageList) (blocks' : Slab PageList)
    (sound : AreBlocks keys blocks 0 capacity) (vacant : get blocks key ≡ None) (updates : Updates blocks blocks' key (Some block))
    (empty : block.pages ≡ []) (roomy : (j : ℕ) → j < 512 → 512 * length keys + j < capacity → j < block.room) where
  abbrev pub longer : List ℕ
  longer = keys ++ key ∷ []

  longer_by_one : length longer ≡ length keys + 1
  longer_by_one = length-append keys (key ∷ [])

  old_key : (b : ℕ) → b < length keys → slice_index longer b ≡ slice_index keys b
  old_key b h = get_or_append_left keys (key ∷ []) 0 b h

  new_key : slice_index longer (length keys) ≡ key
  new_key = get_or-append_seam keys key [] 0

  differs : (b : ℕ) → b < length keys → slice_index keys b ≡ key → ⊥
  differs b h e = let P : Option PageList → Type 0 = λ o. IsSome o in false≢true (subst P (ap (get blocks) e ∙ vacant) (sound.filled b h))

  old_block : (b : ℕ) → b < length keys → block_of longer blocks' b ≡ block_of keys blocks b
  old_block b h = ap (get blocks') (old_key b h) ∙ updates.others (slice_index keys b) (differs b h)

  last_block : (b : ℕ) → b < length longer → length keys ≤ b → block_of longer blocks' b ≡ Some block
  last_block b x k =
      let e : b ≡ length keys = omega (arith, longer_by_one, x, k) in
      ap (block_of longer blocks') e ∙ ap (get blocks') new_key ∙ updates.changed

  filled : (b : ℕ) → b < length longer → ((b < length keys) ⊎ (length keys ≤ b)) → ContainsKey blocks' (slice_index longer b)
  filled b x (inl h) = ap is_some (old_block b h) ∙ sound.filled b h
  filled b x (inr k) = ap is_some (last_block b x k)

  apart : (a b : ℕ) → a < length longer → b < length longer → slice_index longer a ≡ slice_index longer b → ((a < length keys) ⊎ (length keys ≤ a)) → ((b < length keys) ⊎ (length keys ≤ b)) → a ≡ b
  apart a b x y e (inl h) (inl k) = sound.apart a b h k (sym (old_key a h) ∙ e ∙ old_key b k)
  apart a b x y e (inl h) (inr k) =
      let last : b ≡ length keys = omega (arith, longer_by_one, y, k) in
      absurd (differs a h (sym (old_key a h) ∙ e ∙ ap (λ (j : ℕ). slice_index longer j) last ∙ new_key))
  apart a b x y e (inr h) (inl k) =
      let last : a ≡ length keys = omega (arith, longer_by_one, x, h) in
      absurd (differs b k (sym (old_key b k) ∙ sym e ∙ ap (λ (j : ℕ). slice_index longer j) last ∙ new_key))
  apart a b x y e (inr h) (inr k) = omega (arith, longer_by_one, x, y, h, k)

  no_page : (b j : ℕ) → b < length longer → ((b < length keys) ⊎ (length keys ≤ b)) → j < length (pages_of (block_of longer blocks' b)) → 512 * b + j < 0
  no_page b j x (inl h) y = sound.holds.no_more b j h (omega (arith, y, ap (λ (o : Option PageList). length (pages_of o)) (old_block b h)))
  no_page b j x (inr k) y = absurd (omega (arith, y, ap (λ (o : Option PageList). length (pages_of o)) (last_block b x k), ap (λ (pages : List (List ℕ)). length pages) empty))

  room_there : (b j : ℕ) → b < length longer → j < 512 → 512 * b + j < capacity → ((b < length keys) ⊎ (length keys ≤ b)) → j < room_of (block_of longer blocks' b)
  room_there b j x y z (inl h) = omega (arith, sound.holds.room b j h y z, ap (λ (o : Option PageList). room_of o) (old_block b h))
  room_there b j x y z (inr k) = omega (arith, roomy j y (omega (arith, longer_by_one, x, k, z)), ap (λ (o : Option PageList). room_of o) (last_block b x k))

  pub grown : AreBlocks longer blocks' 0 capacity
  grown = record {
    most = sound.most;
    filled = λ b x. filled b x (cases_lt b (length keys));
    apart = λ a b x y e. apart a b x y e (cases_lt a (length keys)) (cases_lt b (length keys));
    holds = record {
      few = sound.holds.few;
      stored = λ b j x y z. absurd (omega (arith, z));
      no_more = λ b j x y. no_page b j x (cases_lt b (length keys)) y;
      room = λ b j x y z. room_there b j x y z (cases_lt b (length keys));
    };
  }

-- no block yet
pub no_blocks : (keys : List ℕ) (blocks : Slab PageList) (capacity : ℕ) → keys ≡ [] → capacity ≤ MAX_FRAMES → AreBlocks keys blocks 0 capacity
no_blocks keys blocks capacity is most =
    record {
      most = most;
      filled = λ b x. absurd (omega (arith, none, x));
      apart = λ a b x y e. absurd (omega (arith, none, x));
      holds = record {
        few = omega arith;
        stored = λ b j x y z. absurd (omega (arith, none, x));
        no_more = λ b j x y. absurd (omega (arith, none, x));
        room = λ b j x y z. absurd (omega (arith, none, x));
      };
    } where
      none : length keys ≡ 0
      none = ap (λ (xs : List ℕ). length xs) is

pub pages_in-none : (block : ByNumber) → pages_in block 0 ≡ []
unfolding pages_in
pages_in-none block = refl

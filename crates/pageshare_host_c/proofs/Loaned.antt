-- The frames of loans, one after the other, and where they are written.
use Rattle.std.proofs.Common.{◌≡◌, ℕ, ◌+◌, ◌<◌, ◌≤◌, List, [], ◌∷◌, ◌++◌, length, get_or, drop, sym, ap, ◌∙◌, append_assoc, arith}
use Rattle.std.proofs.lemmas.List.{drop_more, drop_all, append-nil, length-append, length-drop}
use Rattle.host_messages.specs.declared.item.Lent.{Lent}
use Rattle.pageshare_host_c.specs.Packets.{put_front}
use Rattle.pageshare_host_c.specs.Serving.{frames_of}

module _ (loans : List Lent) (i : ℕ) where
  pub frame_more : (lent d : Lent) (front total : List ℕ) → i < length loans → lent ≡ get_or loans i d
      → front ++ frames_of (drop i loans) ≡ total → (front ++ lent.frame ∷ []) ++ frames_of (drop (i + 1) loans) ≡ total
  unfolding frames_of
  frame_more lent d front total lt is so_far =
      append_assoc front (lent.frame ∷ []) (frames_of (drop (i + 1) loans))
      ∙ sym (ap (λ (l : List Lent). front ++ frames_of l) (drop_more loans i d lt ∙ ap (λ (y : Lent). y ∷ drop (i + 1) loans) (sym is))) ∙ so_far

  pub all_frames : (front total : List ℕ) → length loans ≤ i → front ++ frames_of (drop i loans) ≡ total → front ≡ total
  unfolding frames_of
  all_frames front total le so_far = sym (ap (λ (l : List Lent). front ++ frames_of l) (drop_all i loans le) ∙ append-nil front) ∙ so_far

-- a buffer with these at its front is as long as it was
pub front_length : (xs room : List ℕ) → length xs ≤ length room → length (put_front xs room) ≡ length room
front_length xs room le = omega (arith, length-append xs (drop (length xs) room), length-drop (length xs) room, le)

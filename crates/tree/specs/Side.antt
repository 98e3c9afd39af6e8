-- Left and right, so that a rule and its mirror are one.

pub data Side : Type 0 where
  left : Side
  right : Side

abbrev pub other : Side → Side
other left = right
other right = left

-- the first for the left side, the second for the right
abbrev pub pick : {X : Type 0} → Side → X → X → X
pick left x y = x
pick right x y = y

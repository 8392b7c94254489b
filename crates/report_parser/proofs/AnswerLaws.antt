-- Answers by case. Assumes nothing.

-- ---- the text's end
